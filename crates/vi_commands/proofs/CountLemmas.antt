-- One more line of a caller.
use Rattle.std.proofs.Common.{◌≡◌, ℕ, ◌+◌, ◌<◌, Bool, true, false, cond, List, [], ◌∷◌, ◌++◌, length, Option, Some, None, set, get_or, refl, ap, sym, subst, ◌∙◌, arith, inl, inr}
use Rattle.std.specs.Prelude.{position, slice_get, nat_lt}
use Rattle.std.specs.List.{find, position_or_len}
use Rattle.std.specs.Option.{option_or}
use Rattle.std.proofs.lemmas.Bool.{cases_Bool, ltb-true, ltb-false}
use Rattle.std.proofs.lemmas.List.Quantifiers.{position-Some}
use Rattle.std.proofs.lemmas.Option.{slice_get_past, slice_get-get_or}
use Rattle.std.proofs.lemmas.List.Folds.{find_at, find-set, find_past, find-append}
use Rattle.vi_history.specs.declared.call.Caller.{Caller}
use Rattle.vi_lines.specs.Calls.{same_caller}
use Rattle.vi_lines.proofs.IndexLemmas.{same_caller-eq}
use Rattle.vi_commands.specs.declared.counts.Count.{Count}
use Rattle.vi_commands.specs.Counts.{number_in, number_for}

abbrev is_row_of : Caller → Count → Bool
is_row_of caller row = same_caller row.caller caller

-- the row that was found is the first of its caller
found_at : (rows : List Count) (caller : Caller) (at : ℕ) → position (is_row_of caller) rows ≡ Some at → (at ≡ position_or_len (is_row_of caller) rows) × (at < length rows)
found_at rows caller at found =
    elim (cases_Bool (nat_lt (position_or_len (is_row_of caller) rows) (length rows))) [
      | inl y ↦
          let e = rw y at found in
          let first : at ≡ position_or_len (is_row_of caller) rows = cc in
          (first, rw first (ltb-true (position_or_len (is_row_of caller) rows) (length rows) y))
      | inr n ↦ let e = rw n at found in absurd (cc)
    ]

-- no row was found, so the caller has none
found_none : (rows : List Count) (caller : Caller) → position (is_row_of caller) rows ≡ None → find (is_row_of caller) rows ≡ None
found_none rows caller none =
    elim (cases_Bool (nat_lt (position_or_len (is_row_of caller) rows) (length rows))) [
      | inl y ↦ let e = rw y at none in cc
      | inr n ↦ find_at (is_row_of caller) rows ∙ slice_get_past rows (position_or_len (is_row_of caller) rows) (ltb-false (position_or_len (is_row_of caller) rows) (length rows) n)
    ]

-- the number of the caller whose row was found
pub number_for-found : (rows : List Count) (caller : Caller) (at : ℕ) (r : Count) → position (λ row. same_caller row.caller caller) rows ≡ Some at → r ≡ get_or rows at r → number_for rows caller ≡ r.lines
number_for-found rows caller at r found read =
    let first = found_at rows caller at found in
    ap number_in (find_at (is_row_of caller) rows ∙ (ap (λ i. slice_get rows i) (sym first.0) ∙ (slice_get-get_or rows at r first.1 ∙ ap (λ (x : Count). Some x) (sym read))))

-- and of one whose row wasn't
pub number_for-none : (rows : List Count) (caller : Caller) → position (λ row. same_caller row.caller caller) rows ≡ None → number_for rows caller ≡ 0
number_for-none rows caller none = ap number_in (found_none rows caller none)

-- one line more in the row that was found
pub number_for-set : (rows : List Count) (caller : Caller) (at : ℕ) (r y : Count) → position (λ row. same_caller row.caller caller) rows ≡ Some at → r ≡ get_or rows at r
    → y.caller ≡ r.caller → y.lines ≡ r.lines + 1 → (c : Caller) → number_for (set rows at y) c ≡ number_for rows c + cond (same_caller caller c) 1 0
number_for-set rows caller at r y found read same more c = go (same_caller caller c) refl
  where
    first : (at ≡ position_or_len (is_row_of caller) rows) × (at < length rows)
    first = found_at rows caller at found

    ours : same_caller r.caller caller ≡ true
    ours = subst (λ (x : Count). same_caller x.caller caller ≡ true) (sym read) (position-Some (is_row_of caller) rows at r found).1

    passes : same_caller y.caller caller ≡ true
    passes = rw same ours

    go : (b : Bool) → same_caller caller c ≡ b → number_for (set rows at y) c ≡ number_for rows c + cond b 1 0
    go true e =
        let one : caller ≡ c = same_caller-eq caller c e in
        let new : number_for (set rows at y) caller ≡ y.lines = ap number_in (find-set (is_row_of caller) rows at y first.0 first.1 passes) in
        subst (λ (d : Caller). number_for (set rows at y) d ≡ number_for rows d + 1) one (new ∙ (more ∙ ap (λ (n : ℕ). n + 1) (sym (number_for-found rows caller at r found read))))
    go false e =
        let is : r.caller ≡ caller = same_caller-eq r.caller caller ours in
        let was : same_caller r.caller c ≡ false = rw is e in
        let fails : same_caller (get_or rows at r).caller c ≡ false = subst (λ (x : Count). same_caller x.caller c ≡ false) read was in
        let new : same_caller y.caller c ≡ false = rw same was in
        let none : number_for rows c + 0 ≡ number_for rows c = omega arith in
        ap number_in (find_past (is_row_of c) rows at y r fails new) ∙ sym none

behind : (o : Option Count) (y : Count) (b : Bool) → (b ≡ true → o ≡ None) → y.lines ≡ 1 → number_in (option_or o (cond b (Some y) None)) ≡ number_in o + cond b 1 0
behind None y true none one = one
behind None y false none one = refl
behind (Some r) y true none one = let e = none refl in cc
behind (Some r) y false none one = omega arith

-- a row of a caller that had none
pub number_for-push : (rows : List Count) (caller : Caller) (y : Count) → position (λ row. same_caller row.caller caller) rows ≡ None → y.caller ≡ caller → y.lines ≡ 1
    → (c : Caller) → number_for (rows ++ y ∷ []) c ≡ number_for rows c + cond (same_caller caller c) 1 0
number_for-push rows caller y none is one c =
    let alone : find (is_row_of c) (y ∷ []) ≡ cond (same_caller caller c) (Some y) None = rw is refl in
    let absent : same_caller caller c ≡ true → find (is_row_of c) rows ≡ None = λ e. subst (λ (d : Caller). find (is_row_of d) rows ≡ None) (same_caller-eq caller c e) (found_none rows caller none) in
    ap number_in (find-append (is_row_of c) rows (y ∷ []) ∙ ap (λ (o : Option Count). option_or (find (is_row_of c) rows) o) alone)
    ∙ behind (find (is_row_of c) rows) y (same_caller caller c) absent one
