use Rattle.std.proofs.Common.{◌≡◌, [], length}
use Rattle.vi_events.specs.Buffers.{lists_in}
use Rattle.vi_events.specs.Inside.{IsEventRing}
use Rattle.vi_events.proofs.buffers.Buffers.build.Given as goal

abbrev pub invariant-loop : goal.invariant-loop
invariant-loop l = IsEventRing l.ring × (l.ring.size ≡ l.buffers) × ((lists_in l.ring).used ≡ []) × (length (lists_in l.ring).available ≡ l.counter)
