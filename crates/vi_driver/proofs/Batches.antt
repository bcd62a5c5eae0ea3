-- Batches over a driver's own lines.
use Rattle.std.proofs.Common.{◌≡◌, ◌==◌, ℕ, ◌+◌, ◌-◌, ◌≤◌, Bool, true, false, cond, not, ◌&&◌, List, [], ◌∷◌, ◌++◌, take, drop, count_by, refl, sym, ap, add-one, ◌∙◌, arith}
use Rattle.std.specs.List.{list_all}
use Rattle.std.proofs.Math.Seq.{take-add}
use Rattle.std.proofs.lemmas.Bool.Decides.{nat_tests}
use Rattle.std.proofs.lemmas.List.Sums.{sum_by-append}
use Rattle.vi_history.specs.declared.call.Caller.TheVariants.{Driver}
use Rattle.vi_lines.specs.declared.line.Line.{Line}
use Rattle.vi_lines.specs.Value.{ScriptValue}
use Rattle.vi_lines.specs.Calls.{line_of}
use Rattle.vi_model.specs.Drivers.{Stand, is_one_batch}
use Rattle.vi_driver.specs.Drivers.{own_driver, continues_batch, next_line}

one_more : (n : ℕ) → false ≡ (1 + n == 0)
one_more n = grind (arith, nat_tests)

none_more : (n : ℕ) → n ≡ 0 + n
none_more n = omega arith

-- no line ends a batch exactly where all are `add` lines
none_ends : (lines : List Line) → list_all (λ l. l.add) lines ≡ (count_by (λ l. not l.add) lines == 0)
none_ends [] = refl
none_ends (l ∷ ls) = go l.add (none_ends ls) ∙ ap (λ n. n == 0) (sym (sum_by-append (λ (l : Line). cond (not l.add) 1 0) (l ∷ []) ls))
  where
    go : (b : Bool) → list_all (λ l. l.add) ls ≡ (count_by (λ l. not l.add) ls == 0)
        → (b && list_all (λ l. l.add) ls) ≡ (0 + cond (not b) 1 0 + count_by (λ l. not l.add) ls == 0)
    go true h = h ∙ ap (λ n. n == 0) (none_more (count_by (λ l. not l.add) ls))
    go false h = one_more (count_by (λ l. not l.add) ls)

equal_more : (n m : ℕ) → (m == 0) ≡ (n == n + m)
equal_more n m = grind (arith, nat_tests)

-- the lines between two are `add` lines exactly where the two are in one batch
pub added_between : (lines : List Line) (a b : ℕ) → a ≤ b
    → list_all (λ l. l.add) (take (b - a) (drop a lines)) ≡ (count_by (λ l. not l.add) (take a lines) == count_by (λ l. not l.add) (take b lines))
added_between lines a b le =
    let n : a + (b - a) ≡ b = omega (arith, le) in
    let parts : take b lines ≡ take a lines ++ take (b - a) (drop a lines) = ap (λ k. take k lines) (sym n) ∙ take-add a (b - a) lines in
    let sums = sum_by-append (λ (l : Line). cond (not l.add) 1 0) (take a lines) (take (b - a) (drop a lines)) in
    rw (parts, sums) (none_ends (take (b - a) (drop a lines)) ∙ equal_more (count_by (λ l. not l.add) (take a lines)) (count_by (λ l. not l.add) (take (b - a) (drop a lines))))

-- a driver's own lines say in which batch its open lines are, and which line is the next one
pub one_batch-own : (s : ScriptValue) (driver : ℕ) (d : Stand) → continues_batch (own_driver s driver d) ≡ is_one_batch s driver d
one_batch-own s driver d = refl

pub line_of-own : (s : ScriptValue) (driver : ℕ) (d : Stand) → next_line (own_driver s driver d) ≡ line_of s (Driver driver) (d.submitted + 1)
line_of-own s driver d = rw add-one refl
