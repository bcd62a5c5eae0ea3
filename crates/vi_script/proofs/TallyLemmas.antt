-- One more line in a tally.
use Rattle.std.proofs.Common.{◌≡◌, ℕ, zero, suc, ◌+◌, ◌≤◌, ◌<◌, max, true, false, cond, List, [], ◌∷◌, ◌++◌, length, set, get_or, refl, ap, sym, subst, ◌∙◌, arith, inl, inr, add-zero, zero-add}
use Rattle.std.specs.Prelude.{map, sum, sum_by, All}
use Rattle.std.specs.List.{filter, range_with_len}
use Rattle.std.proofs.lemmas.Bool.{cases_Bool, and_parts, false≢true}
use Rattle.std.proofs.lemmas.Bool.Decides.{nat_tests}
use Rattle.std.proofs.lemmas.List.Folds.{list_all-append}
use Rattle.std.proofs.lemmas.List.Elements.{filter-append}
use Rattle.std.proofs.lemmas.List.Sums.{sum_by_push, sum-map}
use Rattle.std.proofs.lemmas.List.{append-nil}
use Rattle.vi_history.specs.declared.call.Caller.{Caller}
use Rattle.vi_history.specs.declared.call.Caller.TheVariants.{Driver, Back}
use Rattle.vi_lines.specs.declared.line.Line.{Line}
use Rattle.vi_lines.specs.declared.index.Row.{Row}
use Rattle.vi_script.specs.declared.tally.Batch.{Batch}
use Rattle.vi_lines.specs.Calls.{same_caller}
use Rattle.vi_lines.specs.Index.{row_places, added, places_from, AreRows}
use Rattle.vi_lines.specs.Rules.{count_lines}
use Rattle.vi_lines.specs.Limits.{transferred, bytes_in, is_driver, longest_batch_from, open_calls}
use Rattle.vi_script.specs.Tallies.{open_batch_from, batch_of, table, grown, grown_table, no_batch, is_caller, have_callers}
use Rattle.vi_lines.proofs.IndexLemmas.{same_caller-eq, places_from_push, length-places_from, length-filter-le}

pub AreRows_push : (lines : List Line) (l : Line) (old new : List Row) (place : ℕ) → AreRows lines old → place ≡ length lines
    → ((c : Caller) → row_places c new ≡ row_places c old ++ added l.caller place c) → AreRows (lines ++ l ∷ []) new
AreRows_push lines l old new place were is more =
    λ c. more c ∙ (ap (λ xs. xs ++ added l.caller place c) (were c)
    ∙ (ap (λ k. places_from 0 c lines ++ added l.caller k c) (is ∙ (let n : length lines ≡ 0 + length lines = omega arith in n)) ∙ sym (places_from_push 0 c lines l)))

pub bytes_in_push : (lines : List Line) (l : Line) → bytes_in (lines ++ l ∷ []) ≡ bytes_in lines + transferred l.job
bytes_in_push lines l = sum_by_push (λ (l : Line). transferred l.job) lines l

pub have_callers_push : (lines : List Line) (l : Line) → have_callers lines ≡ true → is_caller l.caller ≡ true → have_callers (lines ++ l ∷ []) ≡ true
have_callers_push lines l old new =
    list_all-append (λ (l : Line). is_caller l.caller) lines (l ∷ []) ∙ rw (old, new) refl

pub driver-from_caller : (c : Caller) → is_caller c ≡ true → is_driver c ≡ true
driver-from_caller (Driver number) h = h
driver-from_caller (Back id) h = refl

-- a caller that there can't be has no lines
pub no_lines : (lines : List Line) (c : Caller) → have_callers lines ≡ true → is_caller c ≡ false → 0 ≡ count_lines lines c
no_lines [] c all never = refl
no_lines (l ∷ ls) c all never =
    let parts = and_parts (is_caller l.caller) (have_callers ls) all in
    elim (cases_Bool (same_caller l.caller c)) [
      | inl y ↦
          let e : l.caller ≡ c = same_caller-eq l.caller c y in
          let fits : is_caller c ≡ true = subst (λ x. is_caller x ≡ true) e parts.0 in
          absurd (false≢true (sym never ∙ fits))
      | inr n ↦ rw n (no_lines ls c parts.1 never)
    ]

pub no_driver : (number : ℕ) → 8 ≤ number → is_caller (Driver number) ≡ false
no_driver number h = grind (arith, nat_tests)

pub no_back : (id : ℕ) → 4294967296 ≤ id → is_caller (Back id) ≡ false
no_back id h = grind (arith, nat_tests)

pub lines_counted : (lines : List Line) (rows : List Row) (c : Caller) (count : ℕ) → AreRows lines rows → count ≡ length (row_places c rows) → count ≡ count_lines lines c
lines_counted lines rows c count h is = is ∙ (ap length (h c) ∙ length-places_from 0 c lines)

-- batches with one more line
open_batch_push : (before : ℕ) (ls : List Line) (l : Line) → open_batch_from before (ls ++ l ∷ []) ≡ cond l.add (open_batch_from before ls + 1) 0
open_batch_push before [] l = refl
open_batch_push before (x ∷ ls) l = open_batch_push (cond x.add (before + 1) 0) ls l

longest_batch_push : (before : ℕ) (ls : List Line) (l : Line) → longest_batch_from before (ls ++ l ∷ []) ≡ max (longest_batch_from before ls) (open_batch_from before ls + 1)
longest_batch_push before [] l = omega arith
longest_batch_push before (x ∷ ls) l =
    let rest = longest_batch_push (cond x.add (before + 1) 0) ls l in
    rw rest (omega arith)

-- the open batch has no more lines than there are
open_batch_le : (before : ℕ) (ls : List Line) → open_batch_from before ls ≤ before + length ls
open_batch_le before [] = omega arith
open_batch_le before (x ∷ ls) =
    let rest = open_batch_le (cond x.add (before + 1) 0) ls in
    elim (cases_Bool x.add) [
      | inl y ↦ let h = rw y at rest in rw y (omega arith)
      | inr n ↦ let h = rw n at rest in rw n (omega arith)
    ]

-- the batches of the line's caller grow, and those of others stay
batch_of_same : (lines : List Line) (l : Line) (c : Caller) → same_caller l.caller c ≡ true → batch_of (lines ++ l ∷ []) c ≡ grown l.add (batch_of lines c)
batch_of_same lines l c same =
    let p = λ (l : Line). same_caller l.caller c in
    let one : filter p (l ∷ []) ≡ l ∷ [] = rw same refl in
    let cut : filter p (lines ++ l ∷ []) ≡ filter p lines ++ l ∷ [] = filter-append p lines (l ∷ []) ∙ ap (λ xs. filter p lines ++ xs) one in
    rw (cut, open_batch_push 0 (filter p lines) l, longest_batch_push 0 (filter p lines) l) refl

batch_of_other : (lines : List Line) (l : Line) (c : Caller) → same_caller l.caller c ≡ false → batch_of (lines ++ l ∷ []) c ≡ batch_of lines c
batch_of_other lines l c other =
    let p = λ (l : Line). same_caller l.caller c in
    let none : filter p (l ∷ []) ≡ [] = rw other refl in
    let cut : filter p (lines ++ l ∷ []) ≡ filter p lines ++ [] = filter-append p lines (l ∷ []) ∙ ap (λ xs. filter p lines ++ xs) none in
    rw (cut, append-nil (filter p lines)) refl

-- a table over numbers that changes at one of them
map_same : {B : Type 0} (f g : ℕ → B) (k n : ℕ) → ((j : ℕ) → k ≤ j → g j ≡ f j) → map g (range_with_len k n) ≡ map f (range_with_len k n)
map_same f g k zero same = refl
map_same f g k (suc n) same =
    ap (λ x. x ∷ map g (range_with_len (k + 1) n)) (same k (omega arith)) ∙ ap (λ xs. f k ∷ xs) (map_same f g (k + 1) n (λ j h. same j (omega arith)))

map_set : {B : Type 0} (f g : ℕ → B) (k n i : ℕ) → i < n → ((j : ℕ) → (j ≡ k + i → ⊥) → g j ≡ f j) → map g (range_with_len k n) ≡ set (map f (range_with_len k n)) i (g (k + i))
map_set f g k zero i below same = absurd (omega arith)
map_set f g k (suc n) zero below same =
    let here : k + 0 ≡ k = add-zero k in
    rw here (ap (λ xs. g k ∷ xs) (map_same f g (k + 1) n (λ j h. same j (λ e. absurd (omega arith)))))
map_set f g k (suc n) (suc i) below same =
    let rest = map_set f g (k + 1) n i (omega arith) (λ j other. same j (λ e. other (omega arith))) in
    let there : k + 1 + i ≡ k + suc i = omega arith in
    ap (λ x. x ∷ map g (range_with_len (k + 1) n)) (same k (λ e. absurd (omega arith))) ∙ (ap (λ xs. f k ∷ xs) rest ∙ ap (λ m. f k ∷ set (map f (range_with_len (k + 1) n)) i (g m)) there)

map_get : {B : Type 0} (f : ℕ → B) (k n i : ℕ) (d : B) → i < n → get_or (map f (range_with_len k n)) i d ≡ f (k + i)
map_get f k zero i d below = absurd (omega arith)
map_get f k (suc n) zero d below = ap f (sym (add-zero k))
map_get f k (suc n) (suc i) d below = map_get f (k + 1) n i d (omega arith) ∙ ap f (let e : k + 1 + i ≡ k + suc i = omega arith in e)

other_driver : (i j : ℕ) → (j ≡ 0 + i → ⊥) → same_caller (Driver i) (Driver j) ≡ false
other_driver i j other =
    elim (cases_Bool (same_caller (Driver i) (Driver j))) [
      | inl y ↦ let e : i ≡ j = grind (arith, nat_tests) in absurd (other (omega arith))
      | inr n ↦ n
    ]

pub table_by : (lines : List Line) (l : Line) (c : Caller) → l.caller ≡ c → is_driver c ≡ true → table (lines ++ l ∷ []) ≡ grown_table c l.add (table lines)
table_by lines l (Driver i) is few =
    let below : i < 8 = grind (arith, nat_tests) in
    let old = λ (number : ℕ). batch_of lines (Driver number) in
    let new = λ (number : ℕ). batch_of (lines ++ l ∷ []) (Driver number) in
    let same : same_caller l.caller (Driver i) ≡ true = rw is (grind (arith, nat_tests)) in
    let here : new (0 + i) ≡ grown l.add (get_or (table lines) i no_batch) =
    ap new (zero-add i) ∙ batch_of_same lines l (Driver i) same ∙ ap (λ b. grown l.add b) (sym (map_get old 0 8 i no_batch below ∙ ap old (zero-add i))) in
    map_set old new 0 8 i below (λ j other. batch_of_other lines l (Driver j) (rw is (other_driver i j other))) ∙ ap (λ b. set (table lines) i b) here
table_by lines l (Back id) is few =
    map_same (λ number. batch_of lines (Driver number)) (λ number. batch_of (lines ++ l ∷ []) (Driver number)) 0 8
    (λ j h. batch_of_other lines l (Driver j) (rw is refl))

pub table_push : (lines : List Line) (l : Line) → is_driver l.caller ≡ true → table (lines ++ l ∷ []) ≡ grown_table l.caller l.add (table lines)
table_push lines l few = table_by lines l l.caller refl few

-- the sum over a table is the one over its numbers
map-twice : {A B C : Type 0} (g : B → C) (f : A → B) (xs : List A) → map g (map f xs) ≡ map (λ x. g (f x)) xs
map-twice g f [] = refl
map-twice g f (x ∷ xs) = ap (λ ys. g (f x) ∷ ys) (map-twice g f xs)

sum_map : {A : Type 0} (f : A → Batch) (xs : List A) → sum_by (λ b. b.longest) (map f xs) ≡ sum_by (λ x. (f x).longest) xs
sum_map f xs =
    sym (sum-map (λ (b : Batch). b.longest) (map f xs)) ∙ (ap sum (map-twice (λ (b : Batch). b.longest) f xs) ∙ sum-map (λ x. (f x).longest) xs)

pub open_calls-table : (lines : List Line) → sum_by (λ b. b.longest) (table lines) ≡ open_calls lines
open_calls-table lines = sum_map (λ number. batch_of lines (Driver number)) (range_with_len 0 8)

-- no open batch of a table is longer than all lines
all_map : {B : Type 0} (P : B → Type 0) (f : ℕ → B) (k n : ℕ) → ((j : ℕ) → P (f j)) → All P (map f (range_with_len k n))
all_map P f k zero each i d below = absurd (omega arith)
all_map P f k (suc n) each zero d below = each k
all_map P f k (suc n) each (suc i) d below = all_map P f (k + 1) n each i d (omega arith)

pub table_small : (lines : List Line) → length lines ≤ 10000 → All (λ b. b.current < 100000) (table lines)
table_small lines few =
    all_map (λ b. b.current < 100000) (λ number. batch_of lines (Driver number)) 0 8
    (λ j. omega (arith, open_batch_le 0 (filter (λ (l : Line). same_caller l.caller (Driver j)) lines), length-filter-le (λ (l : Line). same_caller l.caller (Driver j)) lines, few))
