use Rattle.vi_check.proofs.EnteredLemmas.{done_first-none}
use Rattle.vi_check.proofs.driver.Entered.none.Goals as goal

pub invariant_of-result : goal.invariant_of-result
invariant_of-result c = rw c.loop-line.invariant (done_first-none c.loop-line._line)
