use Rattle.std.proofs.Common.{◌≡◌, ◌-◌}
use Rattle.std.specs.List.{find, range_with_len}
use Rattle.vi_lanes.specs.Value.{lanes_at}
use Rattle.vi_control.specs.Places.{has_frame_in, first_frame_in}
use Rattle.vi_control.proofs.places.first_frame.Given as goal

abbrev pub invariant-loop-place : goal.invariant-loop-place
invariant-loop-place l = first_frame_in l.places l.lanes ≡ find (λ place. has_frame_in (lanes_at place l.lanes)) (range_with_len l.place (l.places - l.place))
