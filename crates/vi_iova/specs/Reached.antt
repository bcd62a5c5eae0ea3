-- The spaces that calls come to, and what holds of each.
use Rattle.std.specs.Prelude.{◌≡◌, ℕ, List, [], ◌∷◌}
use Rattle.std.specs.List.{AllByRecursion}
use Rattle.vi_bytes.specs.Spans.{Meets}
use Rattle.vi_bytes.specs.declared.span.Span.{Span}
use Rattle.vi_bytes.specs.declared.region.Region.{Region}
use Rattle.vi_iova.specs.Spaces.{SpaceValue, IsLowestFree, with_live, without_live}

-- nothing is live at first; then spans are given out, each the lowest that is free, and taken back
pub data IsReached : SpaceValue → Type 0 where
  opened : (s : SpaceValue) → s.live ≡ [] → IsReached s
  given : (s : SpaceValue) (len : ℕ) (span : Span) → IsReached s → IsLowestFree s len span → IsReached (with_live span s)
  freed : (s : SpaceValue) (span : Span) → IsReached s → IsReached (without_live span s)

-- no address is in two of the spans
abbrev pub AreDisjoint : List Span → Type 0
AreDisjoint [] = Unit {0}
AreDisjoint (t ∷ ts) = AllByRecursion (λ u. ¬ Meets t u) ts × AreDisjoint ts

-- no address of the span is in a region
abbrev pub IsKeptOff : List Region → Span → Type 0
IsKeptOff regions t = AllByRecursion (λ r. ¬ Meets r.span t) regions

-- no address is in two live spans, or in a live span and a region
pub record AreApart (s : SpaceValue) : Type 0 where
  pub spans : AreDisjoint s.live
  pub regions : AllByRecursion (IsKeptOff s.regions) s.live

-- so it is of every space that calls come to
abbrev pub SpansStayApart : Type 0
SpansStayApart = (s : SpaceValue) → IsReached s → AreApart s
