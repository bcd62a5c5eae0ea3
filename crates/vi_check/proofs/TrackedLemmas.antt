-- What a history in order tells of each caller: which of its calls have an entry or stand behind a fault, and which of
-- its lines are whole.
use Rattle.std.proofs.Common.{◌≡◌, ℕ, ◌+◌, ◌<◌, ◌≤◌, ◌==◌, ◌&&◌, ◌||◌, Bool, true, false, cond, nat_lt, List, [], ◌∷◌, ◌++◌, length, Option, Some, None, IsSome, refl, sym, ap, subst, ◌∙◌, arith, inl, inr, append_assoc}
use Rattle.std.specs.Prelude.{filter}
use Rattle.std.specs.List.{flat_map, list_any}
use Rattle.std.specs.Option.{option_to_list}
use Rattle.std.proofs.lemmas.Bool.{cases_Bool, cases_order, lt-ltb, le-ltb, eq-eqb, ne_eqb, eqb-true, and_right, or_right, false≢true}
use Rattle.std.proofs.lemmas.Bool.Decides.{nat_tests}
use Rattle.std.proofs.Math.Bool.{and-true}
use Rattle.std.proofs.lemmas.List.{append-nil, flat_map_more, length_push}
use Rattle.std.proofs.lemmas.List.Sums.{sum_by_push}
use Rattle.std.proofs.lemmas.List.Folds.{list_any-append}
use Rattle.std.proofs.lemmas.List.Elements.{filter-append}
use Rattle.vi_history.specs.declared.call.Call.{Call}
use Rattle.vi_history.specs.declared.call.Caller.{Caller}
use Rattle.vi_history.specs.declared.call.Caller.TheVariants.{Driver, Back}
use Rattle.vi_history.specs.declared.entry.Entry.{Entry}
use Rattle.vi_history.specs.Kinds.{is_fault}
use Rattle.vi_lines.specs.Calls.{same_caller, lines_of, part_count_of}
use Rattle.vi_lines.specs.Order.{Place, ends_block, is_whole, entries_at, place_after, due_from, due_place, IsNext, IsDue, AreDue, IsOrderedSoFar}
use Rattle.vi_lines.specs.Valid.{IsValid}
use Rattle.vi_lines.specs.Value.{ScriptValue}
use Rattle.vi_lines.proofs.IndexLemmas.{same_caller-eq, same_caller-self}
use Rattle.vi_check.specs.Due.{is_of, is_entered, is_past_fault, call_at, calls_of}
use Rattle.vi_check.proofs.CallLemmas.{IsGood, HasOwnPart, good}

-- an entry more
or_false : (b : Bool) → (b || false) ≡ b
or_false true = refl
or_false false = refl

pub list_any-push : {X : Type 0} (p : X → Bool) (xs : List X) (x : X) → list_any p (xs ++ x ∷ []) ≡ (list_any p xs || p x)
list_any-push p xs x = list_any-append p xs (x ∷ []) ∙ ap (λ b. list_any p xs || b) (or_false (p x))

pub entries_at-push : (c : Caller) (line : ℕ) (before : List Entry) (h : Entry) → entries_at c line (before ++ h ∷ []) ≡ entries_at c line before + cond (is_of c line h) 1 0
entries_at-push c line before h = sum_by_push (λ (g : Entry). cond (is_of c line g) 1 0) before h

due_from-push : (s : ScriptValue) (p : Place) (xs : List Entry) (h : Entry) → due_from s p (xs ++ h ∷ []) ≡ place_after s h
due_from-push s p [] h = refl
due_from-push s p (x ∷ xs) h = due_from-push s (place_after s x) xs h

first_place : Place
first_place = record { line = 1; part = 1 }

pub due_place-same : (s : ScriptValue) (c : Caller) (before : List Entry) (h : Entry) → same_caller h.mark.caller c ≡ true → due_place s c (before ++ h ∷ []) ≡ place_after s h
due_place-same s c before h same =
    let p = λ (g : Entry). same_caller g.mark.caller c in
    let one : filter p (h ∷ []) ≡ h ∷ [] = rw same refl in
    let cut : filter p (before ++ h ∷ []) ≡ filter p before ++ h ∷ [] = filter-append p before (h ∷ []) ∙ ap (λ xs. filter p before ++ xs) one in
    ap (λ xs. due_from s (record { line = 1; part = 1 }) xs) cut ∙ due_from-push s (record { line = 1; part = 1 }) (filter p before) h

pub due_place-other : (s : ScriptValue) (c : Caller) (before : List Entry) (h : Entry) → same_caller h.mark.caller c ≡ false → due_place s c (before ++ h ∷ []) ≡ due_place s c before
due_place-other s c before h other =
    let p = λ (g : Entry). same_caller g.mark.caller c in
    let none : filter p (h ∷ []) ≡ [] = rw other refl in
    let cut : filter p (before ++ h ∷ []) ≡ filter p before = filter-append p before (h ∷ []) ∙ (ap (λ xs. filter p before ++ xs) none ∙ append-nil (filter p before)) in
    ap (λ xs. due_from s (record { line = 1; part = 1 }) xs) cut

-- a call before a place
abbrev pub is_before_place : ℕ → ℕ → Place → Bool
is_before_place line part p = nat_lt line p.line || ((line == p.line) && nat_lt part p.part)

-- whether a call has an entry or stands behind its line's fault, by its caller
abbrev pub passed_by : ScriptValue → List Entry → Caller → ℕ → ℕ → Bool
passed_by s before (Driver number) line part = nat_lt 0 (entries_at (Driver number) line before)
passed_by s before (Back endpoint) line part = is_before_place line part (due_place s (Back endpoint) before)

-- whether a line's block is whole, by its caller
abbrev pub whole_by : ScriptValue → List Entry → Caller → ℕ → Bool
whole_by s before (Driver number) line = nat_lt 0 (entries_at (Driver number) line before)
whole_by s before (Back endpoint) line = nat_lt line (due_place s (Back endpoint) before).line

-- a back end's next call is one of its lines, or the first behind the last
pub record IsPlaceOf (count : ℕ) (p : Place) : Type 0 where
  pub first : 1 ≤ p.line
  pub last : p.line ≤ count + 1
  pub ends : p.line ≡ count + 1 → p.part ≡ 1

pub record IsTracked (s : ScriptValue) (before : List Entry) : Type 0 where
  pub calls : length (calls_of s before) ≡ length before
  pub passed : (c : Caller) (line part : ℕ) (call : Call) → IsGood s c line part call → (is_entered before c line part || is_past_fault before c line part) ≡ passed_by s before c line part
  pub whole : (c : Caller) (line : ℕ) → 1 ≤ line → is_whole s before (record { caller = c; line = line }) ≡ whole_by s before c line
  pub places : (endpoint : ℕ) → IsPlaceOf (length (lines_of s (Back endpoint))) (due_place s (Back endpoint) before)

-- before the first entry
none_passed : (s : ScriptValue) (c : Caller) (line part : ℕ) (call : Call) → IsGood s c line part call → false ≡ passed_by s [] c line part
none_passed s (Driver number) line part call g = refl
none_passed s (Back endpoint) line part call g =
    let first = g.first in
    let own : 1 ≤ part = g.own.0 in
    let a : nat_lt line 1 ≡ false = le-ltb line 1 first in
    let b : nat_lt part 1 ≡ false = le-ltb part 1 own in
    rw (a, b) (grind (arith, nat_tests))

none_whole : (s : ScriptValue) (c : Caller) (line : ℕ) → 1 ≤ line → false ≡ whole_by s [] c line
none_whole s (Driver number) line first = refl
none_whole s (Back endpoint) line first = sym (le-ltb line 1 first)

pub IsTracked-none : (s : ScriptValue) → IsTracked s []
IsTracked-none s = record {
  calls = refl;
  passed = λ c line part call g. none_passed s c line part call g;
  whole = λ c line first. none_whole s c line first;
  places = λ endpoint. record { first = omega arith; last = omega arith; ends = λ e. refl };
}

-- one more call
or_four : (e p f q : Bool) → ((e || p) || (f || q)) ≡ ((e || f) || (p || q))
or_four true p f q = refl
or_four false true true q = refl
or_four false true false q = refl
or_four false false f q = refl

passed-push : (before : List Entry) (h : Entry) (c : Caller) (line part : ℕ)
    → (is_entered (before ++ h ∷ []) c line part || is_past_fault (before ++ h ∷ []) c line part)
    ≡ ((is_entered before c line part || is_past_fault before c line part)
    || ((is_of c line h && (h.mark.part == part)) || (is_of c line h && (is_fault h.mark.kind && nat_lt h.mark.part part))))
passed-push before h c line part =
    let e = list_any-push (λ (g : Entry). is_of c line g && (g.mark.part == part)) before h in
    let f = list_any-push (λ (g : Entry). is_of c line g && (is_fault g.mark.kind && nat_lt g.mark.part part)) before h in
    rw (e, f) (or_four (is_entered before c line part) (is_of c line h && (h.mark.part == part)) (is_past_fault before c line part) (is_of c line h && (is_fault h.mark.kind && nat_lt h.mark.part part)))

-- an entry of another caller changes nothing
passed_by-other : (s : ScriptValue) (before : List Entry) (h : Entry) (c : Caller) (line part : ℕ) → same_caller h.mark.caller c ≡ false → passed_by s (before ++ h ∷ []) c line part ≡ passed_by s before c line part
passed_by-other s before h (Driver number) line part other =
    let of : is_of (Driver number) line h ≡ false = rw other refl in
    let e : entries_at (Driver number) line (before ++ h ∷ []) ≡ entries_at (Driver number) line before + 0 = entries_at-push (Driver number) line before h ∙ ap (λ b. entries_at (Driver number) line before + cond b 1 0) of in
    ap (λ n. nat_lt 0 n) (let same : entries_at (Driver number) line (before ++ h ∷ []) ≡ entries_at (Driver number) line before = omega (arith, e) in same)
passed_by-other s before h (Back endpoint) line part other = ap (λ p. is_before_place line part p) (due_place-other s (Back endpoint) before h other)

whole_by-other : (s : ScriptValue) (before : List Entry) (h : Entry) (c : Caller) (line : ℕ) → same_caller h.mark.caller c ≡ false → whole_by s (before ++ h ∷ []) c line ≡ whole_by s before c line
whole_by-other s before h (Driver number) line other = passed_by-other s before h (Driver number) line 0 other
whole_by-other s before h (Back endpoint) line other = ap (λ (p : Place). nat_lt line p.line) (due_place-other s (Back endpoint) before h other)

-- one more entry of a driver's line
count_more : (n : ℕ) (b : Bool) → nat_lt 0 (n + cond b 1 0) ≡ (nat_lt 0 n || b)
count_more n true = grind (arith, nat_tests)
count_more n false = grind (arith, nat_tests)

pub driver_more : (s : ScriptValue) (before : List Entry) (h : Entry) (number line : ℕ)
    → nat_lt 0 (entries_at (Driver number) line (before ++ h ∷ [])) ≡ (nat_lt 0 (entries_at (Driver number) line before) || is_of (Driver number) line h)
driver_more s before h number line = ap (λ n. nat_lt 0 n) (entries_at-push (Driver number) line before h) ∙ count_more (entries_at (Driver number) line before) (is_of (Driver number) line h)

-- the place after an entry of a back end
abbrev pub after_entry : ℕ → ℕ → Bool → Place
after_entry line part ends = cond ends (record { line = line + 1; part = 1 }) (record { line = line; part = part + 1 })

earlier_line : (line part hl hp : ℕ) (ends : Bool) → line < hl → is_before_place line part (after_entry hl hp ends) ≡ true
earlier_line line part hl hp true h = rw (lt-ltb line (hl + 1) (omega arith)) refl
earlier_line line part hl hp false h = rw (lt-ltb line hl h) refl

later_line : (line part hl hp : ℕ) (ends : Bool) → hl < line → 1 ≤ part → is_before_place line part (after_entry hl hp ends) ≡ false
later_line line part hl hp true h some =
    rw (le-ltb line (hl + 1) (omega arith), le-ltb part 1 some) (and_right (line == hl + 1) false refl)
later_line line part hl hp false h some = rw (le-ltb line hl (omega arith), ne_eqb line hl (λ e. absurd (omega arith))) refl

any_order : (part hp : ℕ) → (nat_lt part hp || ((hp == part) || nat_lt hp part)) ≡ true
any_order part hp = grind (arith, nat_tests)

up_to : (part hp : ℕ) → part ≤ hp → (nat_lt part hp || ((hp == part) || false)) ≡ true
up_to part hp h = grind (arith, nat_tests)

one_more : (part hp : ℕ) → (nat_lt part hp || ((hp == part) || false)) ≡ nat_lt part (hp + 1)
one_more part hp = grind (arith, nat_tests)

this_line : (part hl hp : ℕ) (fault last : Bool) → (last ≡ true → part ≤ hp)
    → (nat_lt part hp || ((hp == part) || (fault && nat_lt hp part))) ≡ is_before_place hl part (after_entry hl hp (fault || last))
this_line part hl hp true last ends = any_order part hp ∙ sym (rw (lt-ltb hl (hl + 1) (omega arith)) refl)
this_line part hl hp false true ends = up_to part hp (ends refl) ∙ sym (rw (lt-ltb hl (hl + 1) (omega arith)) refl)
this_line part hl hp false false ends = one_more part hp ∙ sym (rw (le-ltb hl hl (omega arith), eq-eqb hl hl refl) refl)

past_place : (line part hl hp : ℕ) (fault last : Bool) → 1 ≤ part → (last ≡ true → line ≡ hl → part ≤ hp)
    → (is_before_place line part (record { line = hl; part = hp }) || (((hl == line) && (hp == part)) || ((hl == line) && (fault && nat_lt hp part))))
    ≡ is_before_place line part (after_entry hl hp (fault || last))
past_place line part hl hp fault last some ends =
    elim (cases_order line hl) [
      | inl e ↦
          let is : hl ≡ line = sym e in
          rw (is, le-ltb line line (omega arith), eq-eqb line line refl) (this_line part line hp fault last (λ t. ends t e))
      | inr (inl less) ↦ rw (earlier_line line part hl hp (fault || last) less, lt-ltb line hl less) refl
      | inr (inr more) ↦
          rw (later_line line part hl hp (fault || last) more some, le-ltb line hl (omega arith), ne_eqb line hl (λ e. absurd (omega arith)), ne_eqb hl line (λ e. absurd (omega arith))) refl
    ]

whole_place : (line hl hp : ℕ) (ends : Bool)
    → (nat_lt line hl || ((hl == line) && ends)) ≡ nat_lt line (after_entry hl hp ends).line
whole_place line hl hp true = grind (arith, nat_tests)
whole_place line hl hp false = grind (arith, nat_tests)

-- an entry that was due, of a good call
record Comes (s : ScriptValue) (before : List Entry) (h : Entry) : Type 0 where
  call : Call
  is : call_at s h ≡ Some call
  good_call : IsGood s h.mark.caller h.mark.line h.mark.part call
  next : IsNext s before h.mark.caller h.mark.line h.mark.part

is_some_call : (o : Option Call) → IsSome o → (c : Call) × (o ≡ Some c)
is_some_call None h = absurd (false≢true h)
is_some_call (Some c) h = (c, refl)

comes : (s : ScriptValue) (before : List Entry) (h : Entry) → IsValid s → IsDue s before h → Comes s before h
comes s before h v due =
    let c = is_some_call (call_at s h) due.known in
    record { call = c.0; is = c.1; good_call = good s h.mark.caller h.mark.line h.mark.part c.0 v c.1; next = due.next }

-- whose an entry is
pub of_own : (c : Caller) (line : ℕ) (h : Entry) → h.mark.caller ≡ c → is_of c line h ≡ (h.mark.line == line)
of_own c line h is = let e : same_caller h.mark.caller c ≡ true = rw is (same_caller-self c) in rw e refl

pub of_other : (c : Caller) (line : ℕ) (h : Entry) → same_caller h.mark.caller c ≡ false → is_of c line h ≡ false
of_other c line h other = rw other refl

-- an entry of a driver ends its line's block, and has part 0
driver_own : (s : ScriptValue) (before : List Entry) (h : Entry) (number : ℕ) → h.mark.caller ≡ Driver number → Comes s before h → (h.mark.part ≡ 0) × (ends_block s h ≡ true)
driver_own s before h number is k =
    let own : HasOwnPart (Driver number) h.mark.part (part_count_of s h.mark.caller h.mark.line) = subst (λ c. HasOwnPart c h.mark.part (part_count_of s h.mark.caller h.mark.line)) is k.good_call.own in
    let last : (h.mark.part == part_count_of s h.mark.caller h.mark.line) ≡ true = eq-eqb _ _ (own.0 ∙ sym own.1) in
    (own.0, or_right (is_fault h.mark.kind) _ last)

-- one of a back end is at its place
back_own : (s : ScriptValue) (before : List Entry) (h : Entry) (endpoint : ℕ) → h.mark.caller ≡ Back endpoint → Comes s before h
    → (due_place s (Back endpoint) before ≡ record { line = h.mark.line; part = h.mark.part }) × HasOwnPart (Back endpoint) h.mark.part (part_count_of s (Back endpoint) h.mark.line)
back_own s before h endpoint is k = (
  subst (λ c. IsNext s before c h.mark.line h.mark.part) is k.next,
  subst (λ c. HasOwnPart c h.mark.part (part_count_of s c h.mark.line)) is k.good_call.own,
)

driver_test : (b fault : Bool) (hp part : ℕ) → hp ≡ 0 → part ≡ 0 → ((b && (hp == part)) || (b && (fault && nat_lt hp part))) ≡ b
driver_test true true hp part e f = grind (arith, nat_tests)
driver_test true false hp part e f = grind (arith, nat_tests)
driver_test false fault hp part e f = refl

-- the caller's own entry
own_passed : (s : ScriptValue) (before : List Entry) (h : Entry) (c : Caller) (line part : ℕ) (call : Call) → h.mark.caller ≡ c → Comes s before h → IsGood s c line part call
    → (passed_by s before c line part || ((is_of c line h && (h.mark.part == part)) || (is_of c line h && (is_fault h.mark.kind && nat_lt h.mark.part part)))) ≡ passed_by s (before ++ h ∷ []) c line part
own_passed s before h (Driver number) line part call is k g =
    let own = driver_own s before h number is k in
    ap (λ b. nat_lt 0 (entries_at (Driver number) line before) || b) (driver_test (is_of (Driver number) line h) (is_fault h.mark.kind) h.mark.part part own.0 g.own.0)
    ∙ sym (driver_more s before h number line)
own_passed s before h (Back endpoint) line part call is k g =
    let own = back_own s before h endpoint is k in
    let same : same_caller h.mark.caller (Back endpoint) ≡ true = rw is (same_caller-self (Back endpoint)) in
    let count = part_count_of s h.mark.caller h.mark.line in
    let after : due_place s (Back endpoint) (before ++ h ∷ []) ≡ after_entry h.mark.line h.mark.part (is_fault h.mark.kind || (h.mark.part == count)) = due_place-same s (Back endpoint) before h same in
    let last : (h.mark.part == count) ≡ true → line ≡ h.mark.line → part ≤ h.mark.part =
    λ e l. (let p : part ≤ part_count_of s (Back endpoint) line = g.own.1 in
    let q : part_count_of s (Back endpoint) line ≡ count = ap (λ x. part_count_of s (Back endpoint) x) l ∙ ap (λ c. part_count_of s c h.mark.line) (sym is) in
    omega (arith, p, q, eqb-true h.mark.part count e)) in
    rw (own.0, after, of_own (Back endpoint) line h is) (past_place line part h.mark.line h.mark.part (is_fault h.mark.kind) (h.mark.part == count) g.own.0 last)

passed_step : (s : ScriptValue) (before : List Entry) (h : Entry) (c : Caller) (line part : ℕ) (call : Call) → Comes s before h → IsTracked s before → IsGood s c line part call
    → (is_entered (before ++ h ∷ []) c line part || is_past_fault (before ++ h ∷ []) c line part) ≡ passed_by s (before ++ h ∷ []) c line part
passed_step s before h c line part call k t g =
    let old = t.passed c line part call g in
    let more = passed-push before h c line part in
    elim (cases_Bool (same_caller h.mark.caller c)) [
      | inl y ↦ more ∙ (ap (λ b. b || ((is_of c line h && (h.mark.part == part)) || (is_of c line h && (is_fault h.mark.kind && nat_lt h.mark.part part)))) old
          ∙ own_passed s before h c line part call (same_caller-eq h.mark.caller c y) k g)
      | inr n ↦ more ∙ (ap (λ b. (is_entered before c line part || is_past_fault before c line part) || ((b && (h.mark.part == part)) || (b && (is_fault h.mark.kind && nat_lt h.mark.part part)))) (of_other c line h n)
          ∙ (or_false (is_entered before c line part || is_past_fault before c line part) ∙ (old ∙ sym (passed_by-other s before h c line part n))))
    ]

-- a line's block
own_whole : (s : ScriptValue) (before : List Entry) (h : Entry) (c : Caller) (line : ℕ) → h.mark.caller ≡ c → Comes s before h
    → (whole_by s before c line || (is_of c line h && ends_block s h)) ≡ whole_by s (before ++ h ∷ []) c line
own_whole s before h (Driver number) line is k =
    let own = driver_own s before h number is k in
    ap (λ b. nat_lt 0 (entries_at (Driver number) line before) || (is_of (Driver number) line h && b)) own.1
    ∙ (ap (λ b. nat_lt 0 (entries_at (Driver number) line before) || b) (and-true (is_of (Driver number) line h)) ∙ sym (driver_more s before h number line))
own_whole s before h (Back endpoint) line is k =
    let own = back_own s before h endpoint is k in
    let same : same_caller h.mark.caller (Back endpoint) ≡ true = rw is (same_caller-self (Back endpoint)) in
    let after : due_place s (Back endpoint) (before ++ h ∷ []) ≡ after_entry h.mark.line h.mark.part (ends_block s h) = due_place-same s (Back endpoint) before h same in
    rw (own.0, after, of_own (Back endpoint) line h is) (whole_place line h.mark.line h.mark.part (ends_block s h))

whole_step : (s : ScriptValue) (before : List Entry) (h : Entry) (c : Caller) (line : ℕ) → Comes s before h → IsTracked s before → 1 ≤ line
    → is_whole s (before ++ h ∷ []) (record { caller = c; line = line }) ≡ whole_by s (before ++ h ∷ []) c line
whole_step s before h c line k t first =
    let old = t.whole c line first in
    let more = list_any-push (λ (g : Entry). is_of c line g && ends_block s g) before h in
    elim (cases_Bool (same_caller h.mark.caller c)) [
      | inl y ↦ more ∙ (ap (λ b. b || (is_of c line h && ends_block s h)) old ∙ own_whole s before h c line (same_caller-eq h.mark.caller c y) k)
      | inr n ↦ more ∙ (ap (λ b. is_whole s before (record { caller = c; line = line }) || (b && ends_block s h)) (of_other c line h n)
          ∙ (or_false _ ∙ (old ∙ sym (whole_by-other s before h c line n))))
    ]

-- the places of back ends
place_next : (count line part : ℕ) (ends : Bool) → 1 ≤ line → line ≤ count → IsPlaceOf count (after_entry line part ends)
place_next count line part true first last = record { first = omega arith; last = omega arith; ends = λ e. refl }
place_next count line part false first last = record { first = first; last = omega arith; ends = λ e. absurd (omega (arith, e)) }

place_step : (s : ScriptValue) (before : List Entry) (h : Entry) (endpoint : ℕ) → Comes s before h → IsTracked s before → IsPlaceOf (length (lines_of s (Back endpoint))) (due_place s (Back endpoint) (before ++ h ∷ []))
place_step s before h endpoint k t =
    elim (cases_Bool (same_caller h.mark.caller (Back endpoint))) [
      | inl y ↦
          let last : h.mark.line ≤ length (lines_of s (Back endpoint)) = subst (λ c. h.mark.line ≤ length (lines_of s c)) (same_caller-eq h.mark.caller (Back endpoint) y) k.good_call.last in
          rw (due_place-same s (Back endpoint) before h y) (place_next (length (lines_of s (Back endpoint))) h.mark.line h.mark.part (ends_block s h) k.good_call.first last)
      | inr n ↦ rw (due_place-other s (Back endpoint) before h n) (t.places endpoint)
    ]

-- the calls of the entries
flat_map-push : {X Y : Type 0} (f : X → List Y) (xs : List X) (x : X) → flat_map f (xs ++ x ∷ []) ≡ flat_map f xs ++ f x
flat_map-push f xs x = sym (flat_map_more f [] xs x)

pub calls_of-push : (s : ScriptValue) (before : List Entry) (h : Entry) (c : Call) → call_at s h ≡ Some c → calls_of s (before ++ h ∷ []) ≡ calls_of s before ++ c ∷ []
calls_of-push s before h c is =
    flat_map-push (λ g. option_to_list (call_at s g)) before h ∙ ap (λ o. calls_of s before ++ option_to_list o) is

pub IsTracked-more : (s : ScriptValue) (before : List Entry) (h : Entry) → IsValid s → IsDue s before h → IsTracked s before → IsTracked s (before ++ h ∷ [])
IsTracked-more s before h v due t =
    let k = comes s before h v due in
    record {
      calls = rw (calls_of-push s before h k.call k.is, length_push (calls_of s before) k.call, length_push before h) (ap (λ n. n + 1) t.calls);
      passed = λ c line part call g. passed_step s before h c line part call k t g;
      whole = λ c line first. whole_step s before h c line k t first;
      places = λ endpoint. place_step s before h endpoint k t;
    }

tracked : (s : ScriptValue) (before hs : List Entry) → IsValid s → AreDue s before hs → IsTracked s before → IsTracked s (before ++ hs)
tracked s before [] v due t = subst (λ xs. IsTracked s xs) (sym (append-nil before)) t
tracked s before (h ∷ hs) v due t =
    subst (λ xs. IsTracked s xs) (append_assoc before (h ∷ []) hs) (tracked s (before ++ h ∷ []) hs v due.1 (IsTracked-more s before h v due.0 t))

pub IsTracked-ordered : (s : ScriptValue) (entries : List Entry) → IsValid s → IsOrderedSoFar s entries → IsTracked s entries
IsTracked-ordered s entries v due = tracked s [] entries v due (IsTracked-none s)

-- a history in order with one more entry that was due
pub AreDue-push : (s : ScriptValue) (before hs : List Entry) (h : Entry) → AreDue s before hs → IsDue s (before ++ hs) h → AreDue s before (hs ++ h ∷ [])
AreDue-push s before [] h due one = (subst (λ xs. IsDue s xs h) (append-nil before) one, tt)
AreDue-push s before (g ∷ hs) h due one =
    (due.0, AreDue-push s (before ++ g ∷ []) hs h due.1 (subst (λ xs. IsDue s xs h) (sym (append_assoc before (g ∷ []) hs)) one))
