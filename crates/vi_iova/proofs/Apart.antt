-- Live spans have no common address with one another or with a region.
use Rattle.std.proofs.Common.{◌≡◌, ◌≤◌, Bool, true, false, nat_lt, List, [], ◌∷◌, cond, inl, inr, sym, subst, arith}
use Rattle.std.specs.List.{filter, list_any, AllByRecursion}
use Rattle.std.proofs.lemmas.Bool.{or_parts}
use Rattle.vi_bytes.specs.Spans.{meets, Meets}
use Rattle.vi_bytes.specs.declared.span.Span.{Span}
use Rattle.vi_bytes.specs.declared.region.Region.{Region}
use Rattle.vi_bytes.proofs.SpanLemmas.{ends-from_Meets, apart-from_meets}
use Rattle.vi_iova.specs.Spaces.{SpaceValue, among}
use Rattle.vi_iova.specs.Reached.{IsReached, opened, given, freed, AreDisjoint, IsKeptOff, AreApart}
use Rattle.vi_iova.proofs.Rising.{all-filter, all-among}

no_address : (s t : Span) → meets s t ≡ false → ¬ Meets s t
no_address s t apart shared =
    let ends = ends-from_Meets s t shared in
    let one : s.first ≤ t.last = ends.0 in
    let other : t.first ≤ s.last = ends.1 in
    elim (apart-from_meets s t apart) [ inl below ↦ absurd (omega arith) | inr above ↦ absurd (omega arith) ]

other_way : (s t : Span) → ¬ Meets s t → ¬ Meets t s
other_way s t apart shared = apart (shared.0, shared.2, shared.1)

apart_from_all : (span : Span) (ts : List Span) → list_any (λ t. meets t span) ts ≡ false → AllByRecursion (λ u. ¬ Meets span u) ts
apart_from_all span [] none = tt
apart_from_all span (t ∷ ts) none =
    let parts = or_parts (meets t span) (list_any (λ u. meets u span) ts) none in
    (other_way t span (no_address t span parts.0), apart_from_all span ts parts.1)

kept_off : (span : Span) (rs : List Region) → list_any (λ r. meets r.span span) rs ≡ false → IsKeptOff rs span
kept_off span [] none = tt
kept_off span (r ∷ rs) none =
    let parts = or_parts (meets r.span span) (list_any (λ q. meets q.span span) rs) none in
    (no_address r.span span parts.0, kept_off span rs parts.1)

AreDisjoint-filter : (p : Span → Bool) (ts : List Span) → AreDisjoint ts → AreDisjoint (filter p ts)
AreDisjoint-filter p [] apart = tt
AreDisjoint-filter p (t ∷ ts) apart =
    let rest = AreDisjoint-filter p ts apart.1 in
    elim (p t) as (λ b. AreDisjoint (cond b (t ∷ filter p ts) (filter p ts))) [ true ↦ (all-filter (λ u. ¬ Meets t u) p ts apart.0, rest) | false ↦ rest ]

AreDisjoint-among : (span : Span) (ts : List Span) → list_any (λ t. meets t span) ts ≡ false → AreDisjoint ts → AreDisjoint (among span ts)
AreDisjoint-among span [] none apart = (tt, tt)
AreDisjoint-among span (t ∷ ts) none apart =
    let parts = or_parts (meets t span) (list_any (λ u. meets u span) ts) none in
    let rest = AreDisjoint-among span ts parts.1 apart.1 in
    elim (nat_lt span.first t.first) as (λ b. AreDisjoint (cond b (span ∷ t ∷ ts) (t ∷ among span ts))) [ true ↦ (apart_from_all span (t ∷ ts) none, apart) | false ↦ (all-among (λ u. ¬ Meets t u) span ts (no_address t span parts.0) apart.0, rest) ]

pub stay_apart : (s : SpaceValue) → IsReached s → AreApart s
stay_apart s (opened _ none) = record {
  spans = subst AreDisjoint (sym none) tt;
  regions = subst (AllByRecursion (IsKeptOff s.regions)) (sym none) tt;
}
stay_apart s (given before len span reached lowest) =
    let so_far = stay_apart before reached in
    let apart : list_any (λ t. meets t span) before.live ≡ false = subst (λ x. list_any (λ t. meets t x) before.live ≡ false) (sym lowest.is) lowest.free.apart in
    let off : list_any (λ r. meets r.span span) before.regions ≡ false = subst (λ x. list_any (λ r. meets r.span x) before.regions ≡ false) (sym lowest.is) lowest.free.kept_off in
    record {
      spans = AreDisjoint-among span before.live apart so_far.spans;
      regions = all-among (IsKeptOff before.regions) span before.live (kept_off span before.regions off) so_far.regions;
    }
stay_apart s (freed before span reached) =
    let so_far = stay_apart before reached in
    record {
      spans = AreDisjoint-filter _ before.live so_far.spans;
      regions = all-filter (IsKeptOff before.regions) _ before.live so_far.regions;
    }
