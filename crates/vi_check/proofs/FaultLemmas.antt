-- The shown records against those of a history, which rise.
use Rattle.std.proofs.Common.{◌≡◌, ℕ, zero, suc, ◌+◌, ◌<◌, ◌≤◌, ◌==◌, ◌&&◌, ◌||◌, Bool, true, false, nat_lt, List, [], ◌∷◌, ◌++◌, length, Option, Some, None, take, drop, get_or, refl, sym, ap, subst, ◌∙◌, arith, inl, inr}
use Rattle.std.specs.Prelude.{slice_get}
use Rattle.std.specs.List.{prefix_len}
use Rattle.std.proofs.lemmas.Bool.{cases_Bool, ltb-true, ltb-false, and_parts, ne_eqb, eqb-true, false≢true}
use Rattle.std.proofs.lemmas.List.{take-append-drop, drop_more, take_more}
use Rattle.std.proofs.lemmas.List.Folds.{list_any-append}
use Rattle.vi_history.specs.declared.outcome.Shown.{Shown}
use Rattle.vi_check.specs.Faults.{same_shown, is_one, is_among, bad_record, IsRising}
use Rattle.vi_check.proofs.EnteredLemmas.{get_or-some}

-- the entry number of the last of these records, or this one
abbrev pub last_of : ℕ → List Shown → ℕ
last_of above [] = above
last_of above (x ∷ xs) = last_of x.entry xs

-- a record of another entry is another record
other : (r x : Shown) → (r.entry ≡ x.entry → ⊥) → same_shown r x ≡ false
other r x ne = rw (ne_eqb r.entry x.entry ne) refl

-- a part of rising records rises
rising_split : (above : ℕ) (xs ys : List Shown) → IsRising above (xs ++ ys) → IsRising (last_of above xs) ys
rising_split above [] ys h = h
rising_split above (x ∷ xs) ys h = rising_split x.entry xs ys h.1

rising_front : (above : ℕ) (xs ys : List Shown) → IsRising above (xs ++ ys) → IsRising above xs
rising_front above [] ys h = tt
rising_front above (x ∷ xs) ys h = (h.0, rising_front x.entry xs ys h.1)

rising_lower : (above below : ℕ) (xs : List Shown) → below ≤ above → IsRising above xs → IsRising below xs
rising_lower above below [] le h = tt
rising_lower above below (x ∷ xs) le h = (omega (arith, h.0), h.1)

-- no record up to the last has a number above its
not_above : (above : ℕ) (xs : List Shown) (x : Shown) → IsRising above xs → last_of above xs < x.entry → (above < x.entry) × (is_among xs x ≡ false)
not_above above [] x h more = (more, refl)
not_above above (y ∷ ys) x h more =
    let rest = not_above y.entry ys x h.1 more in
    (omega (arith, rest.0, h.0), rw (other y x (λ e. absurd (omega (arith, rest.0)))) rest.1)

-- none has a number at or below the one that they rise above
not_below : (above : ℕ) (xs : List Shown) (x : Shown) → IsRising above xs → x.entry ≤ above → is_among xs x ≡ false
not_below above [] x h le = refl
not_below above (y ∷ ys) x h le =
    rw (other y x (λ e. absurd (omega (arith, h.0)))) (not_below y.entry ys x h.1 (omega (arith, h.0)))

-- the record that may be this one is the first whose number isn't lower
abbrev pub lower : Shown → List Shown → ℕ
lower x records = prefix_len (λ r. nat_lt r.entry x.entry) records

or_false : (b : Bool) → b ≡ (b || false)
or_false true = refl
or_false false = refl

among_at : (above : ℕ) (records : List Shown) (x : Shown) → IsRising above records → is_among records x ≡ is_one x (slice_get records (lower x records))
among_at above [] x h = refl
among_at above (r ∷ rs) x h =
    elim (cases_Bool (nat_lt r.entry x.entry)) [
      | inl y ↦
          let less : r.entry < x.entry = ltb-true r.entry x.entry y in
          let one : 1 + lower x rs ≡ suc (lower x rs) = omega arith in
          rw (y, other r x (λ e. absurd (omega arith)), one) (among_at r.entry rs x h.1)
      | inr n ↦
          let le : x.entry ≤ r.entry = ltb-false r.entry x.entry n in
          rw (n, not_below r.entry rs x h.1 le) (sym (or_false (same_shown r x)))
    ]

-- in a part of the records: those before it have numbers up to the last
pub among_behind : (records : List Shown) (next : ℕ) (x : Shown) → IsRising 0 records
    → (nat_lt (last_of 0 (take next records)) x.entry && is_among records x) ≡ is_one x (slice_get (drop next records) (lower x (drop next records)))
among_behind records next x h =
    let front = take next records in
    let back = drop next records in
    let whole : front ++ back ≡ records = take-append-drop next records in
    let rising : IsRising 0 (front ++ back) = subst (λ rs. IsRising 0 rs) (sym whole) h in
    let behind : IsRising (last_of 0 front) back = rising_split 0 front back rising in
    elim (cases_Bool (nat_lt (last_of 0 front) x.entry)) [
      | inl y ↦
          let before = not_above 0 front x (rising_front 0 front back rising) (ltb-true _ _ y) in
          let joined : is_among records x ≡ is_among back x =
          ap (λ rs. is_among rs x) (sym whole) ∙ (list_any-append (λ r. same_shown r x) front back ∙ ap (λ b. b || is_among back x) before.1) in
          rw (y, joined) (among_at (last_of 0 front) back x behind)
      | inr n ↦ rw n (sym (not_below (last_of 0 front) back x behind (ltb-false _ _ n)) ∙ among_at (last_of 0 front) back x behind)
    ]

slice_get-drop : {X : Type 0} (n : ℕ) (xs : List X) (k : ℕ) → slice_get (drop n xs) k ≡ slice_get xs (n + k)
slice_get-drop zero xs k = let e : 0 + k ≡ k = omega arith in rw e refl
slice_get-drop (suc n) [] k = refl
slice_get-drop (suc n) (x ∷ xs) k = let e : suc n + k ≡ suc (n + k) = omega arith in rw e (slice_get-drop n xs k)

last_of-push : (above : ℕ) (xs : List Shown) (r : Shown) → last_of above (xs ++ r ∷ []) ≡ r.entry
last_of-push above [] r = refl
last_of-push above (x ∷ xs) r = last_of-push x.entry xs r

same_entry : (r x : Shown) → same_shown r x ≡ true → r.entry ≡ x.entry
same_entry r x e = eqb-true r.entry x.entry (and_parts (r.entry == x.entry) _ e).0

-- a record line that stands where it must
found_at : (records : List Shown) (place : ℕ) (x : Shown) (o : Option Shown) → o ≡ slice_get records place → is_one x o ≡ true → last_of 0 (take (place + 1) records) ≡ x.entry
found_at records place x None e h = absurd (false≢true h)
found_at records place x (Some r) e h =
    let at = get_or-some records place r r e in
    ap (λ rs. last_of 0 rs) (take_more records place r at.0) ∙ (ap (λ y. last_of 0 (take place records ++ y ∷ [])) at.1 ∙ (last_of-push 0 (take place records) r ∙ same_entry r x h))

-- what is tested of the next record line
tested : (records : List Shown) (next : ℕ) (x : Shown) → IsRising 0 records
    → (nat_lt (last_of 0 (take next records)) x.entry && is_among records x) ≡ is_one x (slice_get records (next + lower x (drop next records)))
tested records next x h = among_behind records next x h ∙ ap (λ o. is_one x o) (slice_get-drop next records (lower x (drop next records)))

pub bad_record-next : (records shown : List Shown) (next at place : ℕ) (d : Shown) → IsRising 0 records → at < length shown
    → place ≡ next + lower (get_or shown at d) (drop next records) → is_one (get_or shown at d) (slice_get records place) ≡ true
    → bad_record records (at + 1 + 1) (last_of 0 (take (place + 1) records)) (drop (at + 1) shown)
    ≡ bad_record records (at + 1) (last_of 0 (take next records)) (drop at shown)
bad_record-next records shown next at place d rising below there good =
    let x = get_or shown at d in
    let step = drop_more shown at d below in
    let last : last_of 0 (take (place + 1) records) ≡ x.entry = found_at records place x (slice_get records place) refl good in
    let test : (nat_lt (last_of 0 (take next records)) x.entry && is_among records x) ≡ true = tested records next x rising ∙ (ap (λ p. is_one x (slice_get records p)) (sym there) ∙ good) in
    rw (step, last, test) refl

pub bad_record-here : (records shown : List Shown) (next at place : ℕ) (d : Shown) → IsRising 0 records → at < length shown
    → place ≡ next + lower (get_or shown at d) (drop next records) → is_one (get_or shown at d) (slice_get records place) ≡ false
    → Some (at + 1) ≡ bad_record records (at + 1) (last_of 0 (take next records)) (drop at shown)
bad_record-here records shown next at place d rising below there bad =
    let x = get_or shown at d in
    let step = drop_more shown at d below in
    let test : (nat_lt (last_of 0 (take next records)) x.entry && is_among records x) ≡ false = tested records next x rising ∙ (ap (λ p. is_one x (slice_get records p)) (sym there) ∙ bad) in
    rw (step, test) refl
