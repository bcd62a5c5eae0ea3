-- Lists of mappings that lie apart.
use Rattle.std.proofs.Common.{◌≡◌, ℕ, ◌+◌, ◌≤◌, ◌<◌, Bool, true, false, not, nat_lt, List, [], ◌∷◌, length, Some, None, refl, cond, arith}
use Rattle.std.specs.List.{filter, find}
use Rattle.std.proofs.lemmas.Bool.Decides.{nat_tests}
use Rattle.std.proofs.lemmas.List.Filters.{length-filter_both}
use Rattle.vi_bytes.specs.declared.span.Span.{Span}
use Rattle.vi_bytes.specs.declared.lease.Mapping.{Mapping}
use Rattle.vi_bytes.specs.Spans.{IsProper, meets, covers}
use Rattle.vi_bytes.specs.Mappings.{AreBehind, AreApart, mapping_meeting, with_mapping, within_span, without_span}

-- a fact at a test from the fact at each of its answers
pub by_test : (t : Bool) (P : Bool → Type 0) → (t ≡ true → P true) → (t ≡ false → P false) → P t
by_test t P at_true at_false = elim t as (λ b. (b ≡ true → P true) → (b ≡ false → P false) → P b) [ true ↦ λ f g. f refl | false ↦ λ f g. g refl ] at_true at_false

-- what begins behind an address begins behind each lower one
pub AreBehind-lower : (low high : ℕ) (ms : List Mapping) → low ≤ high → AreBehind high ms → AreBehind low ms
AreBehind-lower low high [] le behind = tt
AreBehind-lower low high (m ∷ ms) le behind = (let h : high < m.span.first = behind.0 in omega arith, AreBehind-lower low high ms le behind.1)

-- what is left of mappings apart lies apart
pub AreBehind-filter : (p : Mapping → Bool) (address : ℕ) (ms : List Mapping) → AreBehind address ms → AreBehind address (filter p ms)
AreBehind-filter p address [] behind = tt
AreBehind-filter p address (m ∷ ms) behind =
    let rest = AreBehind-filter p address ms behind.1 in
    elim (p m) as (λ b. AreBehind address (cond b (m ∷ filter p ms) (filter p ms))) [ true ↦ (behind.0, rest) | false ↦ rest ]

pub AreApart-filter : (p : Mapping → Bool) (ms : List Mapping) → AreApart ms → AreApart (filter p ms)
AreApart-filter p [] apart = tt
AreApart-filter p (m ∷ ms) apart =
    let rest = AreApart-filter p ms apart.2 in
    elim (p m) as (λ b. AreApart (cond b (m ∷ filter p ms) (filter p ms))) [ true ↦ (apart.0, AreBehind-filter p m.span.last ms apart.1, rest) | false ↦ rest ]

pub AreBehind-with_mapping : (m : Mapping) (address : ℕ) (ms : List Mapping) → address < m.span.first → AreBehind address ms → AreBehind address (with_mapping m ms)
AreBehind-with_mapping m address [] below behind = (below, tt)
AreBehind-with_mapping m address (x ∷ xs) below behind =
    let rest = AreBehind-with_mapping m address xs below behind.1 in
    elim (nat_lt m.span.first x.span.first) as (λ b. AreBehind address (cond b (m ∷ x ∷ xs) (x ∷ with_mapping m xs))) [ true ↦ (below, behind) | false ↦ (behind.0, rest) ]

-- a search that finds nothing passed over the first and finds nothing behind it
pub find_nothing : (p : Mapping → Bool) (m : Mapping) (ms : List Mapping) → find p (m ∷ ms) ≡ None → (p m ≡ false) × (find p ms ≡ None)
find_nothing p m ms none =
    let P : Bool → Type 0 = λ b. cond b (Some m) (find p ms) ≡ None → (b ≡ false) × (find p ms ≡ None) in
    let case : (b : Bool) → P b = λ b. elim b as P [ true ↦ λ (h : Some m ≡ None). cc | false ↦ λ (h : find p ms ≡ None). (refl, h) ] in
    case (p m) none

-- a proper mapping that meets none of the others lies apart from them
pub AreApart-with_mapping : (m : Mapping) (ms : List Mapping) → IsProper m.span → AreApart ms → mapping_meeting m.span ms ≡ None → AreApart (with_mapping m ms)
AreApart-with_mapping m [] proper apart none = (proper, tt, tt)
AreApart-with_mapping m (x ∷ xs) proper apart none =
    let found = find_nothing (λ y. meets y.span m.span) x xs none in
    let clear : meets x.span m.span ≡ false = found.0 in
    let x_proper : x.span.first ≤ x.span.last = apart.0 in
    let rest = AreApart-with_mapping m xs proper apart.2 found.1 in
    let P : Bool → Type 0 = λ b. AreApart (cond b (m ∷ x ∷ xs) (x ∷ with_mapping m xs)) in
    let lower : nat_lt m.span.first x.span.first ≡ true → P true = λ (t : nat_lt m.span.first x.span.first ≡ true).
    let before : m.span.last < x.span.first = grind (arith, nat_tests) in
    (proper, (before, AreBehind-lower m.span.last x.span.last xs (omega arith) apart.1), apart) in
    let higher : nat_lt m.span.first x.span.first ≡ false → P false = λ (t : nat_lt m.span.first x.span.first ≡ false).
    let before : x.span.last < m.span.first = grind (arith, nat_tests) in
    (apart.0, AreBehind-with_mapping m x.span.last xs before apart.1, rest) in
    by_test (nat_lt m.span.first x.span.first) P lower higher

pub length-with_mapping : (m : Mapping) (ms : List Mapping) → length (with_mapping m ms) ≡ length ms + 1
length-with_mapping m [] = refl
length-with_mapping m (x ∷ xs) =
    let rest : length (with_mapping m xs) ≡ length xs + 1 = length-with_mapping m xs in
    elim (nat_lt m.span.first x.span.first) as (λ b. length (cond b (m ∷ x ∷ xs) (x ∷ with_mapping m xs)) ≡ length (x ∷ xs) + 1) [ true ↦ omega arith | false ↦ omega arith ]

pub length-within_without : (span : Span) (ms : List Mapping) → length (without_span span ms) + length (within_span span ms) ≡ length ms
length-within_without span ms = length-filter_both (λ m. not (covers span m.span)) (λ m. covers span m.span) (λ m. twice (covers span m.span)) ms
  where
    twice : (b : Bool) → b ≡ not (not b)
    twice true = refl
    twice false = refl
