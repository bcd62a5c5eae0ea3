use Rattle.std.proofs.Common.{◌≡◌, ◌+◌, ◌≤◌, length}
use Rattle.tests_rings.proofs.events.overfill.Given as goal

abbrev pub invariant-faults : goal.invariant-faults
invariant-faults l = (20 ≤ l.queue.events.room + l.fault) × (length l.queue.events.shown + l.queue.events.dropped ≡ l.fault)
