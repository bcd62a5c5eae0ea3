use Rattle.vi_run.specs.Runs.{IsSame}
use Rattle.vi_run.proofs.running.turns_in_a_row.Given as goal

abbrev pub invariant-loop-turns : goal.invariant-loop-turns
invariant-loop-turns g l = IsSame l.shared l.fn.actor l.actor
