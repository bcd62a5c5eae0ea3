-- How many of a driver's first lines are all finished.
use Rattle.std.proofs.Common.{◌≡◌, ◌==◌, ℕ, ◌-◌, min, not, List, [], ◌∷◌, ap, sym, subst, ◌∙◌, arith}
use Rattle.std.specs.Prelude.{All}
use Rattle.std.proofs.lemmas.List.Elements.{All-filter}
use Rattle.vi_model.specs.Drivers.{finished_first, other_lines}
use Rattle.vi_driver.specs.Drivers.{IsSubmitted}

min_swap : (a b c : ℕ) → min a (min b c) ≡ min b (min a c)
min_swap a b c = omega arith

min_sides : (a b : ℕ) → min a b ≡ min b a
min_sides a b = omega arith

-- one more number to be at most
pub finished_less : (lines : List ℕ) (n m : ℕ) → finished_first lines (min n m) ≡ min m (finished_first lines n)
finished_less [] n m = min_sides n m
finished_less (x ∷ xs) n m = ap (min (x - 1)) (finished_less xs n m) ∙ min_swap (x - 1) m (finished_first xs n)

-- the lines that stay open are submitted
pub others_submitted : (lines left : List ℕ) (line n : ℕ) → left ≡ other_lines line lines → All (IsSubmitted n) lines → All (IsSubmitted n) left
others_submitted lines left line n is each = subst (All (IsSubmitted n)) (sym is) (All-filter (λ m. not (m == line)) (IsSubmitted n) lines each)
