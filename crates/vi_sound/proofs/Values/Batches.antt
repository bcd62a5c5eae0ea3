-- Open lines, answered lines and batches.
use Rattle.std.proofs.Common.{◌≡◌, ◌≢◌, ◌==◌, ℕ, ◌+◌, ◌-◌, ◌≤◌, ◌<◌, min, Bool, true, false, cond, not, List, [], ◌∷◌, ◌++◌, take, length, get_or, Option, Some, None, count_by, refl, take-take, arith, ◌∙◌, ap, sym, subst, ◌⊎◌, inl, inr}
use Rattle.std.specs.Prelude.{nat_lt}
use Rattle.std.specs.List.{list_all}
use Rattle.std.proofs.lemmas.Bool.Decides.{nat_tests}
use Rattle.std.proofs.lemmas.Bool.{cases_eq, and_parts, eqb-true, eq-eqb, ne_eqb}
use Rattle.std.proofs.lemmas.List.Sums.{sum_by-take-le, count_by_more_yes}
use Rattle.vi_history.specs.declared.call.Caller.{Caller}
use Rattle.vi_history.specs.declared.entry.Entry.{Entry}
use Rattle.vi_lines.specs.declared.line.Line.{Line}
use Rattle.vi_lines.specs.Value.{ScriptValue}
use Rattle.vi_lines.specs.Calls.{lines_of}
use Rattle.vi_lines.specs.Order.{batch_of}
use Rattle.vi_model.specs.Control.{Answered}
use Rattle.vi_model.specs.Starts.{driver_entry}
use Rattle.vi_model.specs.Drivers.{finished_first, lower, first_answer, other_answers, other_lines}
use Rattle.vi_model.specs.Asking.{one_if}
use Rattle.vi_model.specs.Tracks.{StandsIn}
use Rattle.vi_model.specs.Held.{count_line, count_answers, is_among_first, AnswersStand}

-- one of the first that are all finished is submitted and not open
pub finished_not_open : (line : ℕ) (xs : List ℕ) (n : ℕ) → 1 ≤ line → line ≤ finished_first xs n → (line ≤ n) × (count_line line xs ≡ 0)
finished_not_open line [] n low h = (h, refl)
finished_not_open line (x ∷ xs) n low h =
    let r = finished_not_open line xs n low (omega (arith, h)) in
    let z : one_if (x == line) ≡ 0 = ap one_if (ne_eqb x line (λ q. omega (arith, q, h, low))) in
    (r.0, let t = r.1 in omega (arith, t, z))

pub finished_more : (xs : List ℕ) (n : ℕ) → finished_first (xs ++ (n + 1) ∷ []) (n + 1) ≡ finished_first xs n
finished_more [] n = omega arith
finished_more (x ∷ xs) n = ap (min (x - 1)) (finished_more xs n)

pub among_first : (line n : ℕ) → 1 ≤ line → line ≤ n → one_if (is_among_first line n) ≡ 1
among_first line n low high = grind (arith, nat_tests)

pub among_more : (line n : ℕ) → one_if (is_among_first line (n + 1)) ≡ one_if (is_among_first line n) + one_if (n + 1 == line)
among_more line n = grind (arith, nat_tests)

pub times_more : (line n : ℕ) (xs : List ℕ) → count_line line (xs ++ n ∷ []) ≡ count_line line xs + one_if (n == line)
times_more line n [] = omega arith
times_more line n (x ∷ xs) = let r = times_more line n xs in omega (arith, r)

pub answered_more : (line : ℕ) (a : Answered) (xs : List Answered) → count_answers line (xs ++ a ∷ []) ≡ count_answers line xs + one_if (a.line == line)
answered_more line a [] = omega arith
answered_more line a (x ∷ xs) = let r = answered_more line a xs in omega (arith, r)

pub less_same : (line : ℕ) (xs : List ℕ) → count_line line (other_lines line xs) ≡ 0
less_same line [] = refl
less_same line (x ∷ xs) = go (x == line) refl (less_same line xs)
  where
    go : (b : Bool) → (x == line) ≡ b → count_line line (other_lines line xs) ≡ 0 → count_line line (cond (not b) (x ∷ other_lines line xs) (other_lines line xs)) ≡ 0
    go true e h = h
    go false e h = rw e (omega (arith, h))

pub less_other : (a line : ℕ) (xs : List ℕ) → a ≢ line → count_line a (other_lines line xs) ≡ count_line a xs
less_other a line [] ne = refl
less_other a line (x ∷ xs) ne = go (x == line) refl (less_other a line xs ne)
  where
    go : (b : Bool) → (x == line) ≡ b → count_line a (other_lines line xs) ≡ count_line a xs → count_line a (cond (not b) (x ∷ other_lines line xs) (other_lines line xs)) ≡ one_if (x == a) + count_line a xs
    go true e h =
        let same : x ≡ line = eqb-true x line e in
        let z : one_if (x == a) ≡ 0 = ap one_if (ne_eqb x a (λ q. ne (sym q ∙ same))) in omega (arith, h, z)
    go false e h = ap (λ n. one_if (x == a) + n) h

pub answered_same : (line : ℕ) (xs : List Answered) → count_answers line (other_answers line xs) ≡ 0
answered_same line [] = refl
answered_same line (x ∷ xs) = go (x.line == line) refl (answered_same line xs)
  where
    go : (b : Bool) → (x.line == line) ≡ b → count_answers line (other_answers line xs) ≡ 0 → count_answers line (cond (not b) (x ∷ other_answers line xs) (other_answers line xs)) ≡ 0
    go true e h = h
    go false e h = rw e (omega (arith, h))

pub answered_other : (a line : ℕ) (xs : List Answered) → a ≢ line → count_answers a (other_answers line xs) ≡ count_answers a xs
answered_other a line [] ne = refl
answered_other a line (x ∷ xs) ne = go (x.line == line) refl (answered_other a line xs ne)
  where
    go : (b : Bool) → (x.line == line) ≡ b → count_answers a (other_answers line xs) ≡ count_answers a xs → count_answers a (cond (not b) (x ∷ other_answers line xs) (other_answers line xs)) ≡ one_if (x.line == a) + count_answers a xs
    go true e h =
        let same : x.line ≡ line = eqb-true x.line line e in
        let z : one_if (x.line == a) ≡ 0 = ap one_if (ne_eqb x.line a (λ q. ne (sym q ∙ same))) in omega (arith, h, z)
    go false e h = ap (λ n. one_if (x.line == a) + n) h

pub less_told : (h : List Entry) (j line : ℕ) (xs : List Answered) → AnswersStand h j xs → AnswersStand h j (other_answers line xs)
less_told h j line [] a = tt
less_told h j line (x ∷ xs) a = go (x.line == line) (less_told h j line xs a.1)
  where
    go : (b : Bool) → AnswersStand h j (other_answers line xs) → AnswersStand h j (cond (not b) (x ∷ other_answers line xs) (other_answers line xs))
    go true r = r
    go false r = (a.0, r)

pub told_more : (h : List Entry) (j : ℕ) (x : Answered) (xs : List Answered) → StandsIn (driver_entry j x.line x.answer) h → AnswersStand h j xs → AnswersStand h j (xs ++ x ∷ [])
told_more h j x [] i a = (i, tt)
told_more h j x (y ∷ xs) i a = (a.0, told_more h j x xs i a.1)

-- what is collected is answered
pub first_in : (xs : List Answered) (a : Answered) → first_answer xs ≡ Some a → 0 < count_answers a.line xs
first_in [] a h = absurd cc
first_in (x ∷ xs) a h = go (first_answer xs) refl h (first_in xs)
  where
    self : (y : Answered) → one_if (y.line == y.line) ≡ 1
    self y = ap one_if (eq-eqb y.line y.line refl)

    pick : (b : Bool) (y : Answered) → Some (cond b y x) ≡ Some a → 0 < count_answers y.line xs → 0 < one_if (x.line == a.line) + count_answers a.line xs
    pick true y h r = let same : y ≡ a = cc in let s : 0 < count_answers a.line xs = subst (λ (z : Answered). 0 < count_answers z.line xs) same r in omega (arith, s)
    pick false y h r = let same : x ≡ a = cc in let s : one_if (x.line == a.line) ≡ 1 = ap (λ (z : Answered). one_if (x.line == z.line)) (sym same) ∙ self x in omega (arith, s)

    go : (o : Option Answered) → first_answer xs ≡ o → Some (lower x o) ≡ Some a → ((y : Answered) → first_answer xs ≡ Some y → 0 < count_answers y.line xs) → 0 < one_if (x.line == a.line) + count_answers a.line xs
    go None e h ih = let same : x ≡ a = cc in let s : one_if (x.line == a.line) ≡ 1 = ap (λ (z : Answered). one_if (x.line == z.line)) (sym same) ∙ self x in omega (arith, s)
    go (Some y) e h ih = pick (nat_lt y.line x.line) y h (ih y e)

-- ---- batches

take_less : {X : Type 0} (p : X → Bool) (xs : List X) (a b : ℕ) → a ≤ b → count_by p (take a xs) ≤ count_by p (take b xs)
take_less p xs a b le = subst (λ ys. count_by p ys ≤ count_by p (take b xs)) (take-take a b xs le) (sum_by-take-le (λ x. cond (p x) 1 0) (take b xs) a)

pub batch_rises : (s : ScriptValue) (c : Caller) (a b : ℕ) → a ≤ b → batch_of s c a ≤ batch_of s c b
batch_rises s c a b le = take_less (λ l. not l.add) (lines_of s c) (a - 1) (b - 1) (omega (arith, le))

-- a line that ends its batch is in no later line's batch
pub batch_ends : (s : ScriptValue) (c : Caller) (a b : ℕ) (l : Line) → 1 ≤ a → a < b → a ≤ length (lines_of s c) → get_or (lines_of s c) (a - 1) l ≡ l → l.add ≡ false → batch_of s c a < batch_of s c b
batch_ends s c a b l low lt within is add =
    let one = count_by_more_yes (λ l. not l.add) (lines_of s c) (a - 1) l (omega (arith, low, within)) (ap (λ (k : Line). not k.add) is ∙ rw add refl) in
    let next : a - 1 + 1 ≡ a = omega (arith, low) in
    let upto : count_by (λ l. not l.add) (take a (lines_of s c)) ≡ batch_of s c a + 1 = ap (λ n. count_by (λ l. not l.add) (take n (lines_of s c))) (sym next) ∙ one in
    let more = take_less (λ l. not l.add) (lines_of s c) a (b - 1) (omega (arith, lt)) in
    omega (arith, upto, more)

pub batch_all : (s : ScriptValue) (c : Caller) (batch n : ℕ) (xs : List ℕ) → list_all (λ line. batch_of s c line == batch) xs ≡ true → 0 < count_line n xs → batch_of s c n ≡ batch
batch_all s c batch n [] h i = absurd (omega (arith, i))
batch_all s c batch n (x ∷ xs) h i = go (cases_eq x n) (and_parts (batch_of s c x == batch) (list_all (λ line. batch_of s c line == batch) xs) h) (λ a b. batch_all s c batch n xs a b)
  where
    go : (x ≡ n) ⊎ (x ≡ n → ⊥) → ((batch_of s c x == batch) ≡ true) × (list_all (λ line. batch_of s c line == batch) xs ≡ true) → (list_all (λ line. batch_of s c line == batch) xs ≡ true → 0 < count_line n xs → batch_of s c n ≡ batch) → batch_of s c n ≡ batch
    go (inl e) b ih = ap (batch_of s c) (sym e) ∙ eqb-true (batch_of s c x) batch b.0
    go (inr ne) b ih = let z : one_if (x == n) ≡ 0 = ap one_if (ne_eqb x n ne) in ih b.1 (omega (arith, i, z))
