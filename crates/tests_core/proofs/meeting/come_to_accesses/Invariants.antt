use Rattle.std.proofs.Common.{◌≡◌, length}
use Rattle.vi_run.specs.Runs.{AreActors}
use Rattle.tests_core.proofs.meeting.come_to_accesses.Given as goal

abbrev pub invariant-loop-at : goal.invariant-loop-at
invariant-loop-at l = record {
  each : AreActors l.shared l.actors.items;
  count : length l.actors.items ≡ 5;
}
