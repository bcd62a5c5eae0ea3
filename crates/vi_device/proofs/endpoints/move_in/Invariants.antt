use Rattle.std.proofs.Common.{◌≡◌, ◌++◌, map, take, drop}
use Rattle.vi_device.specs.Seated.{seat_moved_if}
use Rattle.vi_device.proofs.endpoints.move_in.Given as goal

abbrev pub invariant-loop-seat : goal.invariant-loop-seat
invariant-loop-seat l = l.seats ≡ map (seat_moved_if l.id l.domain) (take l.seat-index l.initial.seats) ++ drop l.seat-index l.initial.seats
