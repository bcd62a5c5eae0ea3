use Rattle.std.proofs.Common.{◌≡◌, false, replicate}
use Rattle.vi_check.proofs.driver.Entered.none.Given as goal

abbrev pub invariant-loop-line : goal.invariant-loop-line
invariant-loop-line l = l.entered.items ≡ replicate l._line false
