use Rattle.std.proofs.Common.{◌≡◌, ◌≤◌, length, vec_capacity}
use Rattle.vi_run.specs.Runs.{AreActors}
use Rattle.vi_run.proofs.Opening.{first_after}
use Rattle.vi_run.proofs.opened.actors_of.Given as goal

abbrev pub invariant-loop-who : goal.invariant-loop-who
invariant-loop-who l = record {
  view : l.pass.view ≡ first_after l.script l.who-index;
  table : l.pass.table ≡ l.shared.table;
  count : length l.all.items ≡ l.who-index;
  each : AreActors l.shared l.all.items;
  room : length l.round ≤ vec_capacity l.all;
}
