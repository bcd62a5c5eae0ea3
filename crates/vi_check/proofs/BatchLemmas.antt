-- The batches of a driver's lines.
use Rattle.std.proofs.Common.{◌≡◌, ℕ, zero, suc, ◌+◌, ◌-◌, ◌<◌, ◌≤◌, ◌==◌, Bool, true, false, not, ◌&&◌, cond, List, [], length, Option, Some, None, take, get_or, refl, ap, ◌∙◌, arith}
use Rattle.std.specs.Prelude.{slice_get, count_by}
use Rattle.std.proofs.lemmas.List.{take-take}
use Rattle.std.proofs.lemmas.List.Sums.{sum_by_more, sum_by-take-le}
use Rattle.std.proofs.lemmas.Bool.Decides.{nat_tests}
use Rattle.vi_history.specs.declared.call.Caller.{Caller}
use Rattle.vi_lines.specs.declared.line.Line.{Line}
use Rattle.vi_lines.specs.Calls.{lines_of, line_of}
use Rattle.vi_lines.specs.Order.{batch_of}
use Rattle.vi_lines.specs.Value.{ScriptValue}
use Rattle.vi_history.specs.declared.call.Caller.TheVariants.{Driver}
use Rattle.vi_check.specs.Seen.{Seen, ends_batch_in, comes_next, done_first}
use Rattle.vi_check.proofs.EnteredLemmas.{get_or-some, slice_get-none}

-- a count over one more
count_more : {X : Type 0} (p : X → Bool) (xs : List X) (i : ℕ) (x : X) → Some x ≡ slice_get xs i → count_by p (take (i + 1) xs) ≡ count_by p (take i xs) + cond (p x) 1 0
count_more p xs i x e =
    let at = get_or-some xs i x x e in
    sum_by_more (λ y. cond (p y) 1 0) xs i x at.0 ∙ ap (λ y. count_by p (take i xs) + cond (p y) 1 0) at.1

count_less : {X : Type 0} (p : X → Bool) (xs : List X) (i j : ℕ) → i ≤ j → count_by p (take i xs) ≤ count_by p (take j xs)
count_less p xs i j h = rw (← take-take i j xs h) (sum_by-take-le (λ y. cond (p y) 1 0) (take j xs) i)

-- batches rise
pub batch_of-le : (s : ScriptValue) (c : Caller) (a b : ℕ) → a ≤ b → batch_of s c a ≤ batch_of s c b
batch_of-le s c a b h = count_less (λ l. not l.add) (lines_of s c) (a - 1) (b - 1) (omega arith)

next_in_lines : (lines : List Line) (i : ℕ) (o : Option Line) → o ≡ slice_get lines i → i < length lines
    → count_by (λ l. not l.add) (take (i + 1) lines) ≡ count_by (λ l. not l.add) (take i lines) + cond (ends_batch_in o) 1 0
next_in_lines lines i None e below = absurd (omega (arith, slice_get-none lines i e))
next_in_lines lines i (Some l) e below = count_more (λ l. not l.add) lines i l e

-- a line that ends a batch begins the next one
pub batch_of-next : (s : ScriptValue) (c : Caller) (line : ℕ) → 1 ≤ line → line ≤ length (lines_of s c)
    → batch_of s c (line + 1) ≡ batch_of s c line + cond (ends_batch_in (line_of s c line)) 1 0
batch_of-next s c zero first last = absurd (omega arith)
batch_of-next s c (suc i) first last =
    let a : suc i + 1 - 1 ≡ i + 1 = omega arith in
    let b : suc i - 1 ≡ i = omega arith in
    rw (a, b) (next_in_lines (lines_of s c) i (slice_get (lines_of s c) i) refl (omega arith))

-- behind a line that ends a batch there is another one
pub other_batch : (s : ScriptValue) (c : Caller) (first line second : ℕ) → 1 ≤ line → line < second → second ≤ length (lines_of s c)
    → batch_of s c line ≡ batch_of s c first → ends_batch_in (line_of s c line) ≡ true → false ≡ (batch_of s c first == batch_of s c second)
other_batch s c first line second some below last same ends =
    let next : batch_of s c (line + 1) ≡ batch_of s c line + 1 = rw ends at (batch_of-next s c line some (omega arith)) in
    let rises = batch_of-le s c (line + 1) second (omega arith) in
    grind (arith, nat_tests)

pub one_batch : (s : ScriptValue) (c : Caller) (first line : ℕ) → 1 ≤ line → line ≤ length (lines_of s c)
    → batch_of s c line ≡ batch_of s c first → ends_batch_in (line_of s c line) ≡ false → batch_of s c (line + 1) ≡ batch_of s c first
one_batch s c first line some last same goes_on =
    let next : batch_of s c (line + 1) ≡ batch_of s c line + 0 = rw goes_on at (batch_of-next s c line some last) in
    omega arith

-- a driver's line that is due, by what is seen of the driver
pub comes_next-at : (s : ScriptValue) (seen : Seen) (number line : ℕ) (entered : List Bool) → Some entered ≡ slice_get seen.drivers number
    → comes_next s seen (Driver number) line 0 ≡ (not (get_or entered (line - 1) false) && (batch_of s (Driver number) (done_first entered + 1) == batch_of s (Driver number) line))
comes_next-at s seen number line entered e =
    let is = (get_or-some seen.drivers number entered [] e).1 in
    rw is refl
