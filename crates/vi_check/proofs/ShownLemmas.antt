-- Fault records that go wrong nowhere are those of the history.
use Rattle.std.proofs.Common.{◌≡◌, ℕ, ◌+◌, ◌<◌, ◌≤◌, ◌==◌, ◌&&◌, Bool, true, false, cond, nat_lt, List, [], ◌∷◌, length, Option, Some, None, take, refl, sym, ap, ◌∙◌, arith, inl, inr}
use Rattle.std.specs.Prelude.{All, Contains}
use Rattle.std.specs.List.{list_all}
use Rattle.std.specs.Option.{option_or}
use Rattle.std.specs.Str.{bytes_eq}
use Rattle.std.proofs.lemmas.Bool.{cases_Bool, and_parts, and_from, ltb-true, lt-ltb, eqb-true, eq-eqb, ne_eqb, or_left, or_right, false≢true}
use Rattle.std.proofs.lemmas.List.{get_or_default}
use Rattle.std.proofs.lemmas.List.Elements.{All-nil, All-cons, All-head, All-tail, All-weaker}
use Rattle.std.proofs.lemmas.List.Folds.{Any-from_list_any, list_any_at}
use Rattle.std.proofs.lemmas.List.Sums.{AllPass-from_list_all, list_all-from_AllPass}
use Rattle.std.proofs.lemmas.Slice.Eq.{bytes_eq-Decides}
use Rattle.vi_history.specs.Records.{AreTakenFrom}
use Rattle.vi_history.specs.declared.outcome.Outcome.{Outcome}
use Rattle.vi_history.specs.declared.outcome.Shown.{Shown}
use Rattle.vi_check.specs.Faults.{same_shown, is_among, bad_record, are_complete, bad_faults, IsRising}

-- records that compare as one are one
same_shown-eq : (x y : Shown) → same_shown x y ≡ true → x ≡ y
same_shown-eq x y e =
    let parts = and_parts (x.entry == y.entry) (bytes_eq x.bytes y.bytes) e in
    let bytes : x.bytes ≡ y.bytes = (bytes_eq-Decides x.bytes y.bytes).0 parts.1 in
    ap (λ n. record { entry = n; bytes = x.bytes }) (eqb-true x.entry y.entry parts.0) ∙ ap (λ bs. record { entry = y.entry; bytes = bs }) bytes

same_shown-self : (x : Shown) → same_shown x x ≡ true
same_shown-self x = rw (eq-eqb x.entry x.entry refl, (bytes_eq-Decides x.bytes x.bytes).1 refl) refl

other : (r x : Shown) → (r.entry ≡ x.entry → ⊥) → same_shown r x ≡ false
other r x ne = rw (ne_eqb r.entry x.entry ne) refl

-- one of these
contains : (xs : List Shown) (x : Shown) → is_among xs x ≡ true → Contains xs x
contains xs x e =
    let any = Any-from_list_any (λ r. same_shown r x) xs e in
    let is : any.1 ≡ x = same_shown-eq any.1 x any.4 in
    (any.0, any.2, get_or_default xs any.0 x any.1 any.2 ∙ (any.3 ∙ is))

among : (xs : List Shown) (x : Shown) → Contains xs x → is_among xs x ≡ true
among xs x c = list_any_at (λ r. same_shown r x) xs c.0 x c.1 (rw c.2 (same_shown-self x))

-- each of these record lines rises above the one before it, and is one of the records
abbrev AreAmong : List Shown → List Shown → Type 0
AreAmong records xs = All (λ x. is_among records x ≡ true) xs

rising_lower : (above low : ℕ) (xs : List Shown) → low ≤ above → IsRising above xs → IsRising low xs
rising_lower above low [] le h = tt
rising_lower above low (x ∷ xs) le h = (omega (arith, h.0), h.1)

not_bad : (records : List Shown) (at above : ℕ) (xs : List Shown) → bad_record records at above xs ≡ None → IsRising above xs × AreAmong records xs
not_bad records at above [] e = (tt, All-nil (λ x. is_among records x ≡ true))
not_bad records at above (x ∷ xs) e =
    elim (cases_Bool (nat_lt above x.entry && is_among records x)) [
      | inl y ↦
          let parts = and_parts (nat_lt above x.entry) (is_among records x) y in
          let rest = not_bad records (at + 1) x.entry xs (rw y at e) in
          ((ltb-true above x.entry parts.0, rest.0), All-cons (λ x. is_among records x ≡ true) x xs parts.1 rest.1)
      | inr n ↦ absurd (let f = rw n at e in cc)
    ]

all_good : (records : List Shown) (at above : ℕ) (xs : List Shown) → IsRising above xs → AreAmong records xs → bad_record records at above xs ≡ None
all_good records at above [] rises all = refl
all_good records at above (x ∷ xs) rises all =
    let P = λ (x : Shown). is_among records x ≡ true in
    let test : (nat_lt above x.entry && is_among records x) ≡ true = and_from _ _ (lt-ltb above x.entry rises.0) (All-head P x xs all) in
    rw test (all_good records (at + 1) x.entry xs rises.1 (All-tail P x xs all))

-- a record among rising ones is above the number that they rise above
among_above : (low : ℕ) (rs : List Shown) (x : Shown) → IsRising low rs → is_among rs x ≡ true → low < x.entry
among_above low [] x rises e = absurd (false≢true e)
among_above low (r ∷ rs) x rises e =
    elim (cases_Bool (same_shown r x)) [
      | inl y ↦ let is = ap (λ (s : Shown). s.entry) (same_shown-eq r x y) in omega (arith, rises.0, is)
      | inr n ↦ let rest = among_above r.entry rs x rises.1 (rw n at e) in omega (arith, rest, rises.0)
    ]

-- those that are above a record's number are among the rest
among_rest : (r : Shown) (rs xs : List Shown) (above : ℕ) → r.entry ≤ above → IsRising above xs → AreAmong (r ∷ rs) xs → AreAmong rs xs
among_rest r rs [] above le rises all = All-nil (λ x. is_among rs x ≡ true)
among_rest r rs (x ∷ xs) above le rises all =
    let P = λ (x : Shown). is_among (r ∷ rs) x ≡ true in
    let differ : same_shown r x ≡ false = other r x (λ e. absurd (omega (arith, e, rises.0))) in
    All-cons (λ x. is_among rs x ≡ true) x xs (rw differ at (All-head P x xs all)) (among_rest r rs xs x.entry (omega (arith, rises.0)) rises.1 (All-tail P x xs all))

taken : (rs xs : List Shown) (low above : ℕ) → IsRising low rs → IsRising above xs → AreAmong rs xs → AreTakenFrom xs rs
taken rs [] low above rs_rise xs_rise all = tt
taken [] (x ∷ xs) low above rs_rise xs_rise all = absurd (false≢true (All-head (λ x. is_among [] x ≡ true) x xs all))
taken (r ∷ rs) (x ∷ xs) low above rs_rise xs_rise all =
    let P = λ (x : Shown). is_among (r ∷ rs) x ≡ true in
    elim (cases_Bool (same_shown r x)) [
      | inl y ↦
          let is : r ≡ x = same_shown-eq r x y in
          let number = ap (λ (s : Shown). s.entry) is in
          inl (sym is, taken rs xs r.entry x.entry rs_rise.1 xs_rise.1 (among_rest r rs xs x.entry (omega (arith, number)) xs_rise.1 (All-tail P x xs all)))
      | inr n ↦
          let here : is_among rs x ≡ true = rw n at (All-head P x xs all) in
          let more = among_above r.entry rs x rs_rise.1 here in
          inr (taken rs (x ∷ xs) r.entry above rs_rise.1 xs_rise (All-cons (λ x. is_among rs x ≡ true) x xs here (among_rest r rs xs x.entry (omega (arith, more)) xs_rise.1 (All-tail P x xs all))))
    ]

among_more : (r : Shown) (rs xs : List Shown) → AreAmong rs xs → AreAmong (r ∷ rs) xs
among_more r rs xs all = All-weaker (λ x. is_among rs x ≡ true) (λ x. is_among (r ∷ rs) x ≡ true) (λ x h. or_right (same_shown r x) _ h) xs all

from_taken : (rs xs : List Shown) (low : ℕ) → IsRising low rs → AreTakenFrom xs rs → IsRising low xs × AreAmong rs xs
from_taken rs [] low rises h = (tt, All-nil (λ x. is_among rs x ≡ true))
from_taken [] (x ∷ xs) low rises h = absurd (h)
from_taken (r ∷ rs) (x ∷ xs) low rises h = elim h [
  | inl both ↦
      let number = ap (λ (s : Shown). s.entry) both.0 in
      let rest = from_taken rs xs r.entry rises.1 both.1 in
      let same : same_shown r x ≡ true = rw both.0 (same_shown-self r) in (
        (omega (arith, rises.0, number), rising_lower r.entry x.entry xs (omega (arith, number)) rest.0),
        All-cons (λ x. is_among (r ∷ rs) x ≡ true) x xs (or_left (same_shown r x) _ same) (among_more r rs xs rest.1),
      )
  | inr later ↦
      let rest = from_taken rs (x ∷ xs) r.entry rises.1 later in
      (rising_lower r.entry low (x ∷ xs) (omega (arith, rises.0)) rest.0, among_more r rs (x ∷ xs) rest.1)
]

-- the records are right exactly where nothing goes wrong
pub record AreRight (n : ℕ) (records : List Shown) (o : Outcome) : Type 0 where
  pub taken : AreTakenFrom o.shown records
  pub first : All (λ r. Contains o.shown r) (take n records)
  pub counted : length o.shown + o.dropped ≡ length records

complete : (n : ℕ) (records : List Shown) (o : Outcome) → are_complete n records o ≡ true → All (λ r. Contains o.shown r) (take n records) × (length o.shown + o.dropped ≡ length records)
complete n records o e =
    let parts = and_parts (list_all (λ r. is_among o.shown r) (take n records)) (length o.shown + o.dropped == length records) e in (
      All-weaker (λ r. is_among o.shown r ≡ true) (λ r. Contains o.shown r) (λ r h. contains o.shown r h) (take n records) (AllPass-from_list_all (λ r. is_among o.shown r) (take n records) parts.0),
      eqb-true _ _ parts.1,
    )

complete_from : (n : ℕ) (records : List Shown) (o : Outcome) → All (λ r. Contains o.shown r) (take n records) → length o.shown + o.dropped ≡ length records → are_complete n records o ≡ true
complete_from n records o first counted =
    and_from (list_all (λ r. is_among o.shown r) (take n records)) (length o.shown + o.dropped == length records)
    (list_all-from_AllPass (λ r. is_among o.shown r) (take n records) (All-weaker (λ r. Contains o.shown r) (λ r. is_among o.shown r ≡ true) (λ r h. among o.shown r h) (take n records) first))
    (eq-eqb _ _ counted)

none_of_two : {X : Type 0} (a b : Option X) → option_or a b ≡ None → (a ≡ None) × (b ≡ None)
none_of_two None b e = (refl, e)
none_of_two (Some x) b e = absurd (cc)

none_if : (b : Bool) (n : ℕ) → cond b None (Some n) ≡ None → b ≡ true
none_if true n e = refl
none_if false n e = absurd (cc)

pub right_from_none : (n : ℕ) (records : List Shown) (o : Outcome) → IsRising 0 records → bad_faults n records o ≡ None → AreRight n records o
right_from_none n records o rising e =
    let both = none_of_two (bad_record records 1 0 o.shown) _ e in
    let lines = not_bad records 1 0 o.shown both.0 in
    let whole = complete n records o (none_if (are_complete n records o) (length o.shown + 1) both.1) in
    record { taken = taken records o.shown 0 0 rising lines.0 lines.1; first = whole.0; counted = whole.1 }

pub none_from_right : (n : ℕ) (records : List Shown) (o : Outcome) → IsRising 0 records → AreRight n records o → bad_faults n records o ≡ None
none_from_right n records o rising right' =
    let lines = from_taken records o.shown 0 rising right'.taken in
    rw (all_good records 1 0 o.shown lines.0 lines.1, complete_from n records o right'.first right'.counted) refl
