-- Where the lines of each caller stand among all lines.
use Rattle.std.proofs.Common.{◌≡◌, ℕ, zero, suc, ◌+◌, ◌-◌, ◌<◌, ◌≤◌, Bool, true, false, cond, List, [], ◌∷◌, ◌++◌, length, Option, Some, None, set, take, get_or, refl, ap, sym, subst, ◌∙◌, add-zero, sub-one, arith, append_assoc, length-append, inl, inr}
use Rattle.std.specs.Prelude.{nat_lt}
use Rattle.std.specs.List.{find, filter, position, position_or_len, slice_get, All}
use Rattle.std.specs.Option.{option_and_then, option_or}
use Rattle.std.proofs.lemmas.Bool.{false≢true, cases_Bool, ltb-true, ltb-false}
use Rattle.std.proofs.lemmas.Bool.Decides.{nat_tests}
use Rattle.std.proofs.lemmas.List.{append-nil, take_more, length-take}
use Rattle.std.proofs.lemmas.List.Folds.{find_at, find-set, find_past, find-append}
use Rattle.std.proofs.lemmas.List.Quantifiers.{position-Some}
use Rattle.vi_history.specs.declared.call.Caller.{Caller}
use Rattle.vi_history.specs.declared.call.Caller.TheVariants.{Driver, Back}
use Rattle.vi_lines.specs.declared.line.Line.{Line}
use Rattle.vi_lines.specs.declared.index.Row.{Row}
use Rattle.vi_lines.specs.Calls.{same_caller, lines_of, line_of, HasTransfers, TransfersWell}
use Rattle.vi_lines.specs.Index.{places_in, row_places, added, places_from, AreRows}
use Rattle.vi_lines.specs.Value.{ScriptValue}

-- callers that compare as one are one
pub same_caller-eq : (a b : Caller) → same_caller a b ≡ true → a ≡ b
same_caller-eq (Driver i) (Driver j) h = grind (arith, nat_tests)
same_caller-eq (Driver i) (Back e) h = absurd (false≢true h)
same_caller-eq (Back e) (Driver j) h = absurd (false≢true h)
same_caller-eq (Back e) (Back f) h = grind (arith, nat_tests)

pub same_caller-self : (a : Caller) → same_caller a a ≡ true
same_caller-self (Driver i) = grind (arith, nat_tests)
same_caller-self (Back e) = grind (arith, nat_tests)

-- a row of another caller passes no test for this one
other_row : (a b c : Caller) → same_caller a b ≡ true → same_caller b c ≡ false → same_caller a c ≡ false
other_row a b c same other = let e : a ≡ b = same_caller-eq a b same in rw e other

-- past the end there is no element
pub slice_get-past : {X : Type 0} (xs : List X) (i : ℕ) → length xs ≤ i → slice_get xs i ≡ None
slice_get-past [] i h = refl
slice_get-past (x ∷ xs) zero h = absurd (omega arith)
slice_get-past (x ∷ xs) (suc i) h = slice_get-past xs i (omega arith)

pub slice_get-at : {X : Type 0} (xs : List X) (i : ℕ) (d : X) → i < length xs → slice_get xs i ≡ Some (get_or xs i d)
slice_get-at [] i d h = absurd (omega arith)
slice_get-at (x ∷ xs) zero d h = refl
slice_get-at (x ∷ xs) (suc i) d h = slice_get-at xs i d (omega arith)

-- the place that was found is the first one that passes
position-first : {X : Type 0} (p : X → Bool) (xs : List X) (i : ℕ) → position p xs ≡ Some i → (i ≡ position_or_len p xs) × (i < length xs)
position-first p xs i h =
    elim (cases_Bool (nat_lt (position_or_len p xs) (length xs))) [
      | inl y ↦
          let below : position_or_len p xs < length xs = ltb-true (position_or_len p xs) (length xs) y in
          let e = rw y at h in
          let first : i ≡ position_or_len p xs = cc in
          (first, rw first below)
      | inr n ↦ let e = rw n at h in absurd (cc)
    ]

-- no place was found, so no element passes
position-none : {X : Type 0} (p : X → Bool) (xs : List X) → position p xs ≡ None → find p xs ≡ None
position-none p xs h =
    elim (cases_Bool (nat_lt (position_or_len p xs) (length xs))) [
      | inl y ↦ let e = rw y at h in cc
      | inr n ↦ find_at p xs ∙ slice_get-past xs (position_or_len p xs) (ltb-false (position_or_len p xs) (length xs) n)
    ]

-- what the row of a caller has more
more_places : (rows : List Row) (at : ℕ) (r y : Row) (caller c : Caller) (place : ℕ)
    → at ≡ position_or_len (λ r. same_caller r.caller caller) rows → at < length rows → get_or rows at r ≡ r
    → same_caller r.caller caller ≡ true
    → y.caller ≡ r.caller → y.places.items ≡ r.places.items ++ place ∷ []
    → (b : Bool) → same_caller caller c ≡ b
    → row_places c (set rows at y) ≡ row_places c rows ++ (cond b (place ∷ []) [])
more_places rows at r y caller c place first below read ours same more true e =
    let one : caller ≡ c = same_caller-eq caller c e in
    let passes : same_caller y.caller caller ≡ true = rw same ours in
    let new = find-set (λ r. same_caller r.caller caller) rows at y first below passes in
    let old : find (λ r. same_caller r.caller caller) rows ≡ Some r =
    find_at (λ r. same_caller r.caller caller) rows ∙ (ap (λ i. slice_get rows i) (sym first) ∙ (slice_get-at rows at r below ∙ ap (λ x. Some x) read)) in
    subst (λ d. row_places d (set rows at y) ≡ row_places d rows ++ place ∷ []) one (ap places_in new ∙ (more ∙ ap (λ o. places_in o ++ place ∷ []) (sym old)))
more_places rows at r y caller c place first below read ours same more false e =
    let is : r.caller ≡ caller = same_caller-eq r.caller caller ours in
    let was : same_caller r.caller c ≡ false = rw is e in
    let fails : same_caller (get_or rows at r).caller c ≡ false = rw read was in
    let new : same_caller y.caller c ≡ false = rw (same, is) e in
    ap places_in (find_past (λ r. same_caller r.caller c) rows at y r fails new) ∙ sym (append-nil (row_places c rows))

-- one more place in the row that was found
pub row_places-set : (rows : List Row) (at : ℕ) (r y : Row) (caller : Caller) (place : ℕ)
    → position (λ r. same_caller r.caller caller) rows ≡ Some at → get_or rows at r ≡ r
    → y.caller ≡ r.caller → y.places.items ≡ r.places.items ++ place ∷ []
    → (c : Caller) → row_places c (set rows at y) ≡ row_places c rows ++ added caller place c
row_places-set rows at r y caller place found read same more c =
    let first = position-first (λ (r : Row). same_caller r.caller caller) rows at found in
    let passes = position-Some (λ (r : Row). same_caller r.caller caller) rows at r found in
    let ours : same_caller r.caller caller ≡ true = subst (λ x. same_caller x.caller caller ≡ true) read passes.1 in
    more_places rows at r y caller c place first.0 first.1 read ours same more (same_caller caller c) refl

-- the places of a caller's row behind rows of others
behind_others : (o : Option Row) (y : Row) (place : ℕ) (b : Bool) → (b ≡ true → o ≡ None) → y.places.items ≡ place ∷ []
    → places_in (option_or o (cond b (Some y) None)) ≡ places_in o ++ (cond b (place ∷ []) [])
behind_others None y place true none places = places
behind_others None y place false none places = refl
behind_others (Some r) y place true none places = let e = none refl in cc
behind_others (Some r) y place false none places = sym (append-nil r.places.items)

-- a row of a caller that had none
pub row_places_push : (rows : List Row) (y : Row) (caller : Caller) (place : ℕ)
    → position (λ r. same_caller r.caller caller) rows ≡ None
    → y.caller ≡ caller → y.places.items ≡ place ∷ []
    → (c : Caller) → row_places c (rows ++ y ∷ []) ≡ row_places c rows ++ added caller place c
row_places_push rows y caller place none is places c =
    let alone : find (λ r. same_caller r.caller c) (y ∷ []) ≡ cond (same_caller caller c) (Some y) None = rw is refl in
    let joined = find-append (λ (r : Row). same_caller r.caller c) rows (y ∷ []) in
    let absent : same_caller caller c ≡ true → find (λ r. same_caller r.caller c) rows ≡ None =
    λ e. subst (λ d. find (λ r. same_caller r.caller d) rows ≡ None) (same_caller-eq caller c e) (position-none (λ (r : Row). same_caller r.caller caller) rows none) in
    ap places_in (joined ∙ ap (λ o. option_or (find (λ r. same_caller r.caller c) rows) o) alone)
    ∙ behind_others (find (λ r. same_caller r.caller c) rows) y place (same_caller caller c) absent places

-- one more line
pub places_from_push : (place : ℕ) (caller : Caller) (lines : List Line) (l : Line)
    → places_from place caller (lines ++ l ∷ []) ≡ places_from place caller lines ++ added l.caller (place + length lines) caller
places_from_push place caller [] l = simp (append-nil, add-zero)
places_from_push place caller (x ∷ xs) l =
    let e = places_from_push (place + 1) caller xs l in
    let n : place + 1 + length xs ≡ place + suc (length xs) = omega arith in
    rw (e, n) (sym (append_assoc (added x.caller place caller) (places_from (place + 1) caller xs) (added l.caller (place + suc (length xs)) caller)))

-- a turn of the loop over the lines
pub places_from_more : (lines : List Line) (i : ℕ) (l : Line) (caller : Caller) (old new : List ℕ)
    → i < length lines → l ≡ get_or lines i l
    → old ≡ places_from 0 caller (take i lines) → new ≡ old ++ added l.caller i caller
    → new ≡ places_from 0 caller (take (i + 1) lines)
places_from_more lines i l caller old new below is was more =
    let n : 0 + length (take i lines) ≡ i = omega (arith, length-take i lines) in
    let e : take (i + 1) lines ≡ take i lines ++ l ∷ [] = take_more lines i l below ∙ ap (λ x. take i lines ++ x ∷ []) (sym is) in
    rw (e, more, was) (sym (places_from_push 0 caller (take i lines) l ∙ ap (λ k. places_from 0 caller (take i lines) ++ added l.caller k caller) n))

-- the places are those of the caller's lines
pub length-places_from : (place : ℕ) (caller : Caller) (lines : List Line) → length (places_from place caller lines) ≡ length (filter (λ l. same_caller l.caller caller) lines)
length-places_from place caller [] = refl
length-places_from place caller (l ∷ ls) =
    elim (cases_Bool (same_caller l.caller caller)) [
      | inl y ↦ rw y (ap suc (length-places_from (place + 1) caller ls))
      | inr n ↦ rw n (length-places_from (place + 1) caller ls)
    ]

-- an element of the rest, by its place among all
slice_get-behind : {X : Type 0} (front : List X) (x : X) (xs : List X) → slice_get (front ++ x ∷ xs) (length front) ≡ Some x
slice_get-behind [] x xs = refl
slice_get-behind (y ∷ front) x xs = slice_get-behind front x xs

-- the same with one more line before the rest
next_by_place : (front : List Line) (caller : Caller) (l : Line) (ls : List Line)
    → ((j : ℕ) → slice_get (filter (λ l. same_caller l.caller caller) ls) j
    ≡ option_and_then (λ i. slice_get ((front ++ l ∷ []) ++ ls) i) (slice_get (places_from (length (front ++ l ∷ [])) caller ls) j))
    → (b : Bool) (k : ℕ) → same_caller l.caller caller ≡ b
    → slice_get (cond b (l ∷ filter (λ l. same_caller l.caller caller) ls) (filter (λ l. same_caller l.caller caller) ls)) k
    ≡ option_and_then (λ i. slice_get (front ++ l ∷ ls) i) (slice_get (cond b (length front ∷ []) [] ++ places_from (length front + 1) caller ls) k)
next_by_place front caller l ls rest true zero e = sym (slice_get-behind front l ls)
next_by_place front caller l ls rest true (suc k) e = simp (append_assoc, length-append) at (rest k)
next_by_place front caller l ls rest false k e = simp (append_assoc, length-append) at (rest k)

-- the caller's line of a number stands at its place of that number
by_place : (front : List Line) (caller : Caller) (lines : List Line) (k : ℕ)
    → slice_get (filter (λ l. same_caller l.caller caller) lines) k
    ≡ option_and_then (λ i. slice_get (front ++ lines) i) (slice_get (places_from (length front) caller lines) k)
by_place front caller [] k = refl
by_place front caller (l ∷ ls) k =
    next_by_place front caller l ls (λ j. by_place (front ++ l ∷ []) caller ls j) (same_caller l.caller caller) k refl

pub line_by_place : (caller : Caller) (lines : List Line) (k : ℕ)
    → slice_get (filter (λ l. same_caller l.caller caller) lines) k
    ≡ option_and_then (λ i. slice_get lines i) (slice_get (places_from 0 caller lines) k)
line_by_place caller lines k = by_place [] caller lines k

-- a caller has no more lines than there are
pub length-filter-le : {X : Type 0} (p : X → Bool) (xs : List X) → length (filter p xs) ≤ length xs
length-filter-le p [] = omega arith
length-filter-le p (x ∷ xs) = let e = length-filter-le p xs in
    elim (cases_Bool (p x)) [ inl y ↦ rw y (omega arith) | inr n ↦ rw n (omega arith) ]

-- what the rows say of a caller's lines
pub length-row_places : (s : ScriptValue) (rows : List Row) (caller : Caller) → AreRows s.lines rows → length (row_places caller rows) ≡ length (lines_of s caller)
length-row_places s rows caller h = ap length (h caller) ∙ length-places_from 0 caller s.lines

pub length-lines_of-le : (s : ScriptValue) (caller : Caller) → length (lines_of s caller) ≤ length s.lines
length-lines_of-le s caller = length-filter-le (λ l. same_caller l.caller caller) s.lines

pub line_of-row : (s : ScriptValue) (rows : List Row) (caller : Caller) (line : ℕ) → AreRows s.lines rows → (line ≡ 0 → ⊥)
    → line_of s caller line ≡ option_and_then (λ i. slice_get s.lines i) (slice_get (row_places caller rows) (line - 1))
line_of-row s rows caller zero h n = absurd (n refl)
line_of-row s rows caller (suc k) h n = rw (h caller, sub-one) (line_by_place caller s.lines k)

-- nothing stands at no place, and a line at its place
pub line_of-no_row : (s : ScriptValue) (rows : List Row) (caller : Caller) (line : ℕ) → AreRows s.lines rows → (line ≡ 0 → ⊥)
    → None ≡ slice_get (row_places caller rows) (line - 1) → None ≡ line_of s caller line
line_of-no_row s rows caller line h n e = ap (λ o. option_and_then (λ i. slice_get s.lines i) o) e ∙ sym (line_of-row s rows caller line h n)

pub line_of-in_row : (s : ScriptValue) (rows : List Row) (caller : Caller) (line place : ℕ) → AreRows s.lines rows → (line ≡ 0 → ⊥)
    → Some place ≡ slice_get (row_places caller rows) (line - 1) → slice_get s.lines place ≡ line_of s caller line
line_of-in_row s rows caller line place h n e = ap (λ o. option_and_then (λ i. slice_get s.lines i) o) e ∙ sym (line_of-row s rows caller line h n)

-- the same where it holds of the rest
kept_next : {X : Type 0} (P : X → Type 0) (p : X → Bool) (y : X) (xs : List X) (k : ℕ) (x : X)
    → P y → ((j : ℕ) → slice_get (filter p xs) j ≡ Some x → (p x ≡ true) × P x)
    → (b : Bool) → p y ≡ b → slice_get (cond b (y ∷ filter p xs) (filter p xs)) k ≡ Some x → (p x ≡ true) × P x
kept_next P p y xs zero x first rest true passes e =
    let is : y ≡ x = cc in
    (subst (λ z. p z ≡ true) is passes, subst P is first)
kept_next P p y xs (suc k) x first rest true passes e = rest k e
kept_next P p y xs k x first rest false fails e = rest k e

-- an element that a filter keeps passes its test, and what holds of all holds of it
kept_by_filter : {X : Type 0} (P : X → Type 0) (p : X → Bool) (xs : List X) (k : ℕ) (x : X)
    → All P xs → slice_get (filter p xs) k ≡ Some x → (p x ≡ true) × P x
kept_by_filter P p [] k x h e = absurd (cc)
kept_by_filter P p (y ∷ xs) k x h e =
    let first : P y = h 0 y (omega arith) in
    kept_next P p y xs k x first (λ j f. kept_by_filter P p xs j x (λ i d below. h (suc i) d (omega arith)) f) (p y) refl e

-- a caller's line is the caller's
pub line_of-caller : (s : ScriptValue) (caller : Caller) (line : ℕ) (l : Line) → HasTransfers s → line_of s caller line ≡ Some l → (l.caller ≡ caller) × TransfersWell l.job
line_of-caller s caller zero l h e = absurd (cc)
line_of-caller s caller (suc k) l h e =
    let kept = kept_by_filter (λ l. TransfersWell l.job) (λ (l : Line). same_caller l.caller caller) s.lines k l h e in
    (same_caller-eq l.caller caller kept.0, kept.1)
