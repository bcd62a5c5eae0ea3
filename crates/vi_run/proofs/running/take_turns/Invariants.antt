use Rattle.std.proofs.Common.{◌<◌, ◌≤◌, ◌-◌, length}
use Rattle.vi_run.specs.Runs.{AreSame}
use Rattle.vi_run.proofs.running.take_turns.Given as goal

abbrev pub invariant-loop-turns : goal.invariant-loop-turns
invariant-loop-turns g l = record {
  same : AreSame l.shared l.fn.chunk l.chunk;
  some : 0 < length l.chunk;
  at : l.at ≤ length l.chunk;
  few : l.turns ≤ l.most;
}

abbrev pub decreases-loop-turns : goal.decreases-loop-turns
decreases-loop-turns g l = l.most - l.turns
