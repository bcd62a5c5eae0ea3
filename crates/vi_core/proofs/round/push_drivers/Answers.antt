use Rattle.std.proofs.Common.{arith, ◌≡◌, ◌++◌, ◌+◌, ◌<◌, ◌≤◌, ℕ, true, false, ap, ◌∙◌}
use Rattle.std.specs.Prelude.{nat_lt}
use Rattle.std.proofs.lemmas.Bool.Decides.{nat_tests}
use Rattle.vi_model.specs.Rounds.{has_lines}
use Rattle.vi_core.proofs.Whose.{drivers_from, driver_pushed, driver_skipped}
use Rattle.vi_core.proofs.round.push_drivers.Goals as goal
use Rattle.vi_core.proofs.round.push_drivers.Goals.{then-count-gt0+in_ok-push, else-count-gt0}

some : (n m : ℕ) → n ≡ m → 0 < n → nat_lt 0 m ≡ true
some n m e h = grind (arith, nat_tests)

none : (n m : ℕ) → n ≡ m → n ≤ 0 → nat_lt 0 m ≡ false
none n m e h = grind (arith, nat_tests)

pub loop-number-preserved : goal.loop-number-preserved
loop-number-preserved c = elim c.if-count-gt0.branch [
  | then-count-gt0+in_ok-push w ↦
      let has : has_lines c.args.script.now c.loop-number.number ≡ true = some _ _ c.count.ensures w.if-count-gt0.true in
      let made : c.if-count-gt0.actors.items ≡ c.loop-number.actors.items ++ _ = ap (λ v. v.items) w.actors-is ∙ w.in_ok-push.ensures.items in
      ap (λ xs. xs ++ drivers_from c.args.script.now (c.loop-number.number + 1)) made ∙ driver_pushed c.args.script.now _ _ c.loop-number.number c.loop-number-test.true has c.loop-number.invariant
  | else-count-gt0 w ↦
      let has : has_lines c.args.script.now c.loop-number.number ≡ false = none _ _ c.count.ensures w.if-count-gt0.false in
      ap (λ v. v.items ++ drivers_from c.args.script.now (c.loop-number.number + 1)) w.actors-is ∙ driver_skipped c.args.script.now _ _ c.loop-number.number c.loop-number-test.true has c.loop-number.invariant
]
