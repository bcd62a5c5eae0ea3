use Rattle.std.proofs.Common.{◌≡◌, length, map, take, vec_capacity}
use Rattle.vi_device.specs.Seated.{unattached_seat}
use Rattle.vi_device.proofs.endpoints.seats_of.Given as goal

abbrev pub invariant-loop-endpoint : goal.invariant-loop-endpoint
invariant-loop-endpoint l = record {
  seats : l.seats.items ≡ map (λ e. unattached_seat e) (take l.endpoint-index l.endpoints);
  room : vec_capacity l.seats ≡ length l.endpoints;
}
