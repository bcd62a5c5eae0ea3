-- What a walk over what is taken finds, in the words of the space.
use Rattle.std.proofs.Common.{◌≡◌, ℕ, ◌+◌, ◌-◌, ◌^◌, ◌≤◌, ◌<◌, max, Bool, false, ◌||◌, List, [], ◌∷◌, map, Option, Some, None, IfSome, IfNone, refl, sym, ap, ◌∙◌, subst, arith}
use Rattle.std.specs.List.{list_any}
use Rattle.std.specs.List.Sorted.{IsPermutation}
use Rattle.std.proofs.lemmas.List.Sorted.{list_any-IsPermutation}
use Rattle.vi_bytes.specs.Spans.{meets, IsMultiple}
use Rattle.vi_bytes.specs.declared.span.Span.{Span}
use Rattle.vi_bytes.specs.declared.region.Region.{Region}
use Rattle.vi_iova.specs.declared.walk.Wanted.{Wanted}
use Rattle.vi_iova.specs.Spaces.{SpaceValue, span_of, IsFree, IsLowestFree}
use Rattle.vi_iova.specs.Order.{IsInOrder}
use Rattle.vi_iova.specs.Walks.{IsNext, IsClear, Finds}

-- a test of the spans of regions
any-spans : (p : Span → Bool) (rs : List Region) → list_any p (map (λ r. r.span) rs) ≡ list_any (λ r. p r.span) rs
any-spans p [] = refl
any-spans p (r ∷ rs) = ap (λ b. p r.span || b) (any-spans p rs)

-- what a walk looks for in a space, and where it begins
pub record IsFor (s : SpaceValue) (len : ℕ) (w : Wanted) (kept : List Span) (from : ℕ) : Type 0 where
  pub long : w.len ≡ len
  pub by : w.granule ≡ s.granule
  pub to : w.last ≡ s.input.last
  pub some : 0 < s.granule
  pub same : IsPermutation (map (λ r. r.span) s.regions) kept
  pub next : IsNext s.granule (max s.granule s.input.first - 1) from

same_regions : (s : SpaceValue) (len : ℕ) (w : Wanted) (kept : List Span) (from : ℕ) → IsFor s len w kept from → (span : Span) → list_any (λ r. meets r.span span) s.regions ≡ list_any (λ t. meets t span) kept
same_regions s len w kept from is span =
    sym (any-spans (λ t. meets t span) s.regions) ∙ list_any-IsPermutation (λ t. meets t span) (map (λ r. r.span) s.regions) kept is.same

-- a free place is one that the walk finds clear, from where it begins on
clear-from_free : (s : SpaceValue) (len : ℕ) (w : Wanted) (kept : List Span) (from : ℕ) → IsFor s len w kept from → (first : ℕ) → IsFree s len first → (from ≤ first) × IsClear w s.live kept first
clear-from_free s len w kept from is first free =
    let g : s.granule ≤ first = free.from in
    let i : s.input.first ≤ first = free.begins in
    let some : 0 < s.granule = is.some in
    let regions = same_regions s len w kept from is (span_of first len) in (
      is.next.lowest first free.whole (omega arith),
      record {
        whole = subst (λ n. IsMultiple n first) (sym is.by) free.whole;
        ends = rw (is.long, is.to) free.ends;
        apart = rw is.long free.apart;
        kept = rw is.long (sym regions ∙ free.kept_off);
      },
    )

free-from_clear : (s : SpaceValue) (len : ℕ) (w : Wanted) (kept : List Span) (from : ℕ) → IsFor s len w kept from → (first : ℕ) → from ≤ first → IsClear w s.live kept first → IsFree s len first
free-from_clear s len w kept from is first le clear =
    let above : max s.granule s.input.first - 1 < from = is.next.above in
    let regions = same_regions s len w kept from is (span_of first len) in
    let none : list_any (λ t. meets t (span_of first len)) kept ≡ false = rw is.long at clear.kept in
    record {
      whole = subst (λ n. IsMultiple n first) is.by clear.whole;
      from = omega arith;
      begins = omega arith;
      ends = rw (is.long, is.to) at clear.ends;
      apart = rw is.long at clear.apart;
      kept_off = regions ∙ none;
    }

pub lowest_found : (s : SpaceValue) (len : ℕ) (w : Wanted) (kept : List Span) (from : ℕ) (r : Option Span) → IsFor s len w kept from → Finds w s.live kept from r → IfSome r (IsLowestFree s len)
lowest_found s len w kept from None is found = tt
lowest_found s len w kept from (Some span) is found = record {
  is = subst (λ n. span ≡ span_of span.first n) is.long found.is;
  free = free-from_clear s len w kept from is span.first found.begins found.clear;
  lowest = λ first below free.
      let h = clear-from_free s len w kept from is first free in
      let le : span.first ≤ first = found.lowest first h.0 h.1 in
      absurd (omega arith);
}

pub none_found : (s : SpaceValue) (len : ℕ) (w : Wanted) (kept : List Span) (from : ℕ) (r : Option Span) → IsFor s len w kept from → Finds w s.live kept from r → IfNone r ((first : ℕ) → ¬ IsFree s len first)
none_found s len w kept from None is found = λ first free. let h = clear-from_free s len w kept from is first free in found first h.0 h.1
none_found s len w kept from (Some span) is found = tt

-- no multiple of the granule is as high as a free span would have to be
pub none_above_range : (s : SpaceValue) (len : ℕ) → 0 < s.granule → s.input.last < 2 ^ 64 → ((n : ℕ) → IsMultiple s.granule n → max s.granule s.input.first - 1 < n → 2 ^ 64 ≤ n) → (first : ℕ) → ¬ IsFree s len first
none_above_range s len some small none first free =
    let g : s.granule ≤ first = free.from in
    let i : s.input.first ≤ first = free.begins in
    let ends : first + (len - 1) ≤ s.input.last = free.ends in
    let large : 2 ^ 64 ≤ first = none first free.whole (omega arith) in
    absurd (omega arith)

-- what the walk finds, as the code's calls say it
pub searched : (s : SpaceValue) (len by top from : ℕ) (wanted : Wanted) (kept live' kept' : List Span) (r : Option Span) → wanted ≡ record { len = len; granule = by; last = s.input.last } → by ≡ s.granule → top ≡ max by s.input.first → IsInOrder s.granule s.regions kept s.live → IsNext wanted.granule (top - 1) from
    → live' ≡ s.live → kept' ≡ kept → Finds wanted live' kept' from r → IfSome r (IsLowestFree s len) × IfNone r ((first : ℕ) → ¬ IsFree s len first)
searched s len by top from wanted kept live' kept' r what granule is order next live same found =
    let w : Wanted = record { len = len; granule = by; last = s.input.last } in
    let above : IsNext s.granule (max s.granule s.input.first - 1) from = rw (what, is, granule) at next in
    let here : Finds w s.live kept from r = rw (what, live, same) at found in
    let for : IsFor s len w kept from = record { long = refl; by = granule; to = refl; some = order.some; same = order.same; next = above } in
    (lowest_found s len w kept from r for here, none_found s len w kept from r for here)

pub nothing_above : (s : SpaceValue) (len by top : ℕ) (wanted : Wanted) (r : Option Span) → wanted ≡ record { len = len; granule = by; last = s.input.last } → by ≡ s.granule → top ≡ max by s.input.first → 0 < s.granule → s.input.last < 2 ^ 64 → ((n : ℕ) → IsMultiple wanted.granule n → top - 1 < n → 2 ^ 64 ≤ n)
    → r ≡ None → IfNone r ((first : ℕ) → ¬ IsFree s len first)
nothing_above s len by top wanted r what granule is some small none nothing = rw nothing (none_above_range s len some small (rw (what, is, granule) at none))
