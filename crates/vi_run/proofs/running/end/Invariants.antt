use Rattle.std.proofs.Common.{◌≡◌, ◌≤◌, length, vec_capacity}
use Rattle.std.specs.Vec.Iter.{into_iter_items, into_iter_len}
use Rattle.vi_run.proofs.Joining.{IsEnding}
use Rattle.vi_run.proofs.running.end.Given as goal

abbrev pub invariant-loop-actor : goal.invariant-loop-actor
invariant-loop-actor l = record {
  can : (goal.iterator-loop-actor).can_next l.actor-iterator;
  finite : (goal.iterator-loop-actor).is_finite l.actor-iterator;
  size : into_iter_len l.actor-iterator ≡ length (into_iter_items l.actor-iterator);
  ending : IsEnding l.shared (length l.fn.actors.items) l.pass (into_iter_items l.actor-iterator) l.logs.items;
  room : length l.fn.actors.items ≤ vec_capacity l.logs;
}
