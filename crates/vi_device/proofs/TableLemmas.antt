-- What a domain's mappings are once one was added or some were removed.
use Rattle.std.proofs.Common.{◌≡◌, ◌↔◌, ℕ, ◌+◌, ◌-◌, ◌<◌, ◌||◌, Bool, true, false, not, nat_lt, List, [], ◌∷◌, length, Option, Some, None, Result, Ok, Err, is_some, IfSome, IfOk, refl, sym, ap, ◌∙◌, cond, arith}
use Rattle.std.specs.List.{find, list_any, All}
use Rattle.std.specs.Option.{option_or}
use Rattle.std.proofs.lemmas.Bool.Decides.{nat_tests}
use Rattle.std.proofs.lemmas.Option.{IfSome_then}
use Rattle.std.proofs.lemmas.List.Elements.{All-head, All-tail, All-cons, All-filter}
use Rattle.vi_bytes.specs.declared.span.Span.{Span}
use Rattle.vi_bytes.specs.declared.lease.Mapping.{Mapping}
use Rattle.vi_bytes.specs.Spans.{IsProper, Has, has, covers}
use Rattle.vi_bytes.specs.Mappings.{AreApart, MappingSet, mapping_at, mapping_cut, is_cut, with_mapping, within_span, without_span}
use Rattle.vi_history.specs.Statuses.{any_mapping_is_cut}
use Rattle.vi_tree.specs.Trees.{cut_of}
use Rattle.vi_tree.proofs.ListLemmas.{cut_at_ends}
use Rattle.vi_ranges.proofs.MappingLemmas.{length-with_mapping, length-within_without}
use Rattle.vi_device.specs.Tables.{IsInRange, Fits}

-- a search finds something where some element passes
pub is_some-find : {A : Type 0} (p : A → Bool) (xs : List A) → is_some (find p xs) ≡ list_any p xs
is_some-find p [] = refl
is_some-find p (x ∷ xs) =
    let rest = is_some-find p xs in
    elim (p x) as (λ b. is_some (cond b (Some x) (find p xs)) ≡ (b || list_any p xs)) [ true ↦ refl | false ↦ rest ]

pub none_by_test : {A : Type 0} (o : Option A) → is_some o ≡ false → o ≡ None
none_by_test None e = refl
none_by_test (Some x) e = cc

pub none-find : {A : Type 0} (p : A → Bool) (xs : List A) → list_any p xs ≡ false → find p xs ≡ None
none-find p xs nothing = none_by_test (find p xs) (is_some-find p xs ∙ nothing)

-- what is true of each element is true of what is found
pub All-find : {A : Type 0} (P : A → Type 0) (p : A → Bool) (xs : List A) → All P xs → IfSome (find p xs) P
All-find P p [] all = tt
All-find P p (x ∷ xs) all =
    let rest = All-find P p xs (All-tail P x xs all) in
    elim (p x) as (λ b. IfSome (cond b (Some x) (find p xs)) P) [ true ↦ All-head P x xs all | false ↦ rest ]

-- what is found passes
pub find_passes : {A : Type 0} (p : A → Bool) (xs : List A) → IfSome (find p xs) (λ x. p x ≡ true)
find_passes p [] = tt
find_passes p (x ∷ xs) =
    let rest = find_passes p xs in
    let case : (b : Bool) → p x ≡ b → IfSome (cond b (Some x) (find p xs)) (λ x. p x ≡ true) = λ b. elim b as (λ b. p x ≡ b → IfSome (cond b (Some x) (find p xs)) (λ x. p x ≡ true)) [ true ↦ λ e. e | false ↦ λ e. rest ] in
    case (p x) refl

pub Has-find : (address : ℕ) (ms : List Mapping) → IfSome (mapping_at address ms) (λ m. Has m.span address)
Has-find address ms = IfSome_then (mapping_at address ms) (find_passes (λ m. has m.span address) ms) (λ m t. within m t)
  where
    within : (m : Mapping) → has m.span address ≡ true → Has m.span address
    within m t = (grind (arith, nat_tests), grind (arith, nat_tests))

pub All-with_mapping : (P : Mapping → Type 0) (m : Mapping) (ms : List Mapping) → P m → All P ms → All P (with_mapping m ms)
All-with_mapping P m [] h all = All-cons P m [] h all
All-with_mapping P m (x ∷ xs) h all =
    let rest = All-with_mapping P m xs h (All-tail P x xs all) in
    elim (nat_lt m.span.first x.span.first) as (λ b. All P (cond b (m ∷ x ∷ xs) (x ∷ with_mapping m xs))) [
      | true ↦ All-cons P m (x ∷ xs) h all
      | false ↦ All-cons P x (with_mapping m xs) (All-head P x xs all) rest
    ]

-- a mapping that is cut has an end of the span
pub cut_by_ends : (span : Span) (ms : List Mapping) → AreApart ms → IsProper span → any_mapping_is_cut span ms ≡ (is_some (cut_of span (mapping_at span.first ms)) || is_some (cut_of span (mapping_at span.last ms)))
cut_by_ends span ms apart proper =
    sym (is_some-find (is_cut span) ms) ∙ ap is_some (cut_at_ends span ms apart proper) ∙ either (cut_of span (mapping_at span.first ms)) (cut_of span (mapping_at span.last ms))
  where
    either : {A : Type 0} (o r : Option A) → is_some (option_or o r) ≡ (is_some o || is_some r)
    either None r = refl
    either (Some x) r = refl

-- what is cut of one mapping
pub cut_of_some : (span : Span) (m : Mapping) → is_some (cut_of span (Some m)) ≡ not (covers span m.span)
cut_of_some span m = elim (covers span m.span) as (λ b. is_some (cond b None (Some m)) ≡ not b) [ true ↦ refl | false ↦ refl ]

-- a call that errs only where something is found, where nothing is
pub ok_by_none : {A E F : Type 0} (r : Result A E) (o : Option F) (err : F → E) (P : A → Type 0) (Q : Type 0)
    → ((e : E) → (f : F) × (e ≡ err f)) → ((f : F) → (r ≡ Err (err f)) ↔ (o ≡ Some f)) → o ≡ None → IfOk r P → ((x : A) → r ≡ Ok x → P x → Q) → Q
ok_by_none (Ok x) o err P Q all errs none p q = q x refl p
ok_by_none (Err e) o err P Q all errs none p q =
    let f = all e in
    let found : o ≡ Some f.0 = (errs f.0).0 (ap Err f.1) in
    absurd cc

-- a table that fits, with a mapping more
pub Fits-insert : (maps : ℕ) (set : MappingSet) (m : Mapping) → Fits maps set → length set.mappings < maps → IsInRange m → Fits maps (record { mappings = with_mapping m set.mappings; spare = set.spare - 1 })
Fits-insert maps set m fits below range =
    let one_more = length-with_mapping m set.mappings in
    record {
      most = omega (arith, one_more, fits.most);
      room = omega (arith, one_more, fits.room);
      ranges = All-with_mapping IsInRange m set.mappings range fits.ranges;
    }

-- a table that fits, without those of a span
pub Fits-remove : (maps : ℕ) (set : MappingSet) (span : Span) → Fits maps set → Fits maps (record { mappings = without_span span set.mappings; spare = set.spare + length (within_span span set.mappings) })
Fits-remove maps set span fits =
    let parts = length-within_without span set.mappings in
    record {
      most = omega (arith, parts, fits.most);
      room = omega (arith, parts, fits.room);
      ranges = All-filter (λ m. not (covers span m.span)) IsInRange set.mappings fits.ranges;
    }

-- all addresses
abbrev pub all_addresses : Span
all_addresses = record { first = 0; last = 18446744073709551615 }

pub cut-all : (ms : List Mapping) → All IsInRange ms → mapping_cut all_addresses ms ≡ None
cut-all [] ranges = refl
cut-all (m ∷ ms) ranges =
    let rest = cut-all ms (All-tail IsInRange m ms ranges) in
    let last = (All-head IsInRange m ms ranges).last in
    let whole : is_cut all_addresses m ≡ false = grind (arith, nat_tests) in
    rw whole rest

pub without-all : (ms : List Mapping) → All IsInRange ms → without_span all_addresses ms ≡ []
without-all [] ranges = refl
without-all (m ∷ ms) ranges =
    let rest = without-all ms (All-tail IsInRange m ms ranges) in
    let last = (All-head IsInRange m ms ranges).last in
    let whole : covers all_addresses m.span ≡ true = grind (arith, nat_tests) in
    rw whole rest
