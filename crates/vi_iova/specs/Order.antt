-- Spans by rising address, and how a space keeps its own.
use Rattle.std.specs.Prelude.{ℕ, ◌≤◌, ◌<◌, List, [], ◌∷◌, map, IsPermutation}
use Rattle.std.specs.List.{AllByRecursion}
use Rattle.vi_bytes.specs.declared.span.Span.{Span}
use Rattle.vi_bytes.specs.declared.region.Region.{Region}

-- each span begins at the address or above it
abbrev pub BeginFrom : ℕ → List Span → Type 0
BeginFrom address spans = AllByRecursion (λ t. address ≤ t.first) spans

-- no span begins below one in front of it
abbrev pub AreRising : List Span → Type 0
AreRising [] = Unit {0}
AreRising (t ∷ ts) = BeginFrom t.first ts × AreRising ts

-- The live spans and those that are kept off go by rising address, and the latter are the regions'.
pub record IsInOrder (granule : ℕ) (regions : List Region) (kept_off live : List Span) : Type 0 where
  pub some : 0 < granule
  pub live_rise : AreRising live
  pub kept_rise : AreRising kept_off
  pub same : IsPermutation (map (λ r. r.span) regions) kept_off
