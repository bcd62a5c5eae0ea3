-- How the event queue is kept.
use Rattle.std.specs.Prelude.{◌≡◌, ◌≤◌, ◌+◌, length, map, drop}
use Rattle.std.specs.Vec.{vec_len, vec_capacity}
use Rattle.vi_events.specs.declared.queue.EventQueue.TheInside.{Inside}
use Rattle.vi_events.specs.Value.{EventQueue}

-- the records that nobody has taken are the last ones
abbrev pub queue_of : Inside → EventQueue
queue_of q = record {
  buffers = q.buffers.buffers;
  events = record { shown = q.shown.items; waiting = drop q.taken q.shown.items; dropped = q.dropped; room = q.room };
}

-- the buffers have those records
pub record IsQueue (q : Inside) : Type 0 where
  pub taken : q.taken ≤ length q.shown.items
  pub records : map (λ s. s.bytes) (drop q.taken q.shown.items) ≡ q.buffers.records
  pub room : vec_len q.shown + q.room ≤ vec_capacity q.shown
