use Rattle.std.proofs.Common.{◌≡◌, length}
use Rattle.vi_run.specs.Runs.{AreActors}
use Rattle.vi_run.proofs.running.run.Given as goal

abbrev pub invariant-loop-round : goal.invariant-loop-round
invariant-loop-round g l = record {
  each : AreActors l.shared l.actors.items;
  count : length l.actors.items ≡ length l.fn.opened.actors;
}
