-- A walk by rising address over what is taken, to the lowest place that is clear.
use Rattle.std.specs.Prelude.{◌≡◌, ℕ, ◌+◌, ◌-◌, ◌≤◌, ◌<◌, Bool, false, List, [], ◌∷◌, Option, Some, None}
use Rattle.std.specs.List.{list_any}
use Rattle.vi_bytes.specs.Spans.{meets, IsMultiple}
use Rattle.vi_bytes.specs.declared.span.Span.{Span}
use Rattle.vi_iova.specs.Spaces.{span_of}
use Rattle.vi_iova.specs.declared.walk.Wanted.{Wanted}

-- the lowest multiple of the granule above an address
pub record IsNext (granule address n : ℕ) : Type 0 where
  pub whole : IsMultiple granule n
  pub above : address < n
  pub lowest : (m : ℕ) → IsMultiple granule m → address < m → n ≤ m

-- the lowest multiple of the granule, from the first on, above an address
pub record IsPast (granule first address n : ℕ) : Type 0 where
  pub whole : IsMultiple granule n
  pub from : first ≤ n
  pub above : address < n
  pub lowest : (m : ℕ) → IsMultiple granule m → first ≤ m → address < m → n ≤ m

-- the first of the spans begins above the address, if there is one
abbrev pub BeginAbove : ℕ → List Span → Type 0
BeginAbove address [] = Unit {0}
BeginAbove address (t ∷ ts) = address < t.first

-- a span shares an address with this one
abbrev pub any_meets : Span → List Span → Bool
any_meets span taken = list_any (λ t. meets t span) taken

-- what is wanted can begin here, and meets nothing that is taken
pub record IsClear (w : Wanted) (live kept_off : List Span) (first : ℕ) : Type 0 where
  pub whole : IsMultiple w.granule first
  pub ends : first + (w.len - 1) ≤ w.last
  pub apart : any_meets (span_of first w.len) live ≡ false
  pub kept : any_meets (span_of first w.len) kept_off ≡ false

-- the lowest clear span from an address on
pub record IsLowestClear (w : Wanted) (live kept_off : List Span) (from : ℕ) (span : Span) : Type 0 where
  pub is : span ≡ span_of span.first w.len
  pub begins : from ≤ span.first
  pub clear : IsClear w live kept_off span.first
  pub lowest : (first : ℕ) → from ≤ first → IsClear w live kept_off first → span.first ≤ first

-- the lowest clear span from an address on, or that there is none
abbrev pub Finds : Wanted → List Span → List Span → ℕ → Option Span → Type 0
Finds w live kept_off from (Some span) = IsLowestClear w live kept_off from span
Finds w live kept_off from None = (first : ℕ) → from ≤ first → ¬ IsClear w live kept_off first
