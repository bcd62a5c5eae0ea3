use Rattle.std.proofs.Common.{◌≡◌, ◌-◌, length}
use Rattle.std.specs.List.{find, range_with_len}
use Rattle.vi_lanes.specs.Value.{parked_at}
use Rattle.vi_control.specs.Places.{is_free_at, first_free_in}
use Rattle.vi_control.proofs.places.first_free.Given as goal

abbrev pub invariant-loop-place : goal.invariant-loop-place
invariant-loop-place l = record {
  all : l.places ≡ length l.removals.ids;
  rest : first_free_in l.device.dev l.removals l.lanes ≡ find (λ place. is_free_at l.device.dev l.removals place (parked_at place l.lanes)) (range_with_len l.place (l.places - l.place));
}
