use Rattle.std.proofs.Common.{◌≡◌, length, map, ap, ◌∙◌, arith}
use Rattle.std.specs.Vec.{with_items}
use Rattle.std.proofs.lemmas.List.{with_items_is, length-map}
use Rattle.vi_device.specs.Seated.{seat_moved_if}
use Rattle.vi_device.proofs.SeatLemmas.{seated_moved, endpoints_seen-moved, length-endpoints_seen}
use Rattle.vi_device.proofs.endpoints.Endpoints.move_to.Goals as goal

seats_moved : (c : goal.After-self-1) → (with_items c.self.inside.seats c.move_in.new.seats).items ≡ map (seat_moved_if c.args.id c.args.domain) c.self.inside.seats.items
seats_moved c =
    let seats = c.self.inside.seats in
    let moved : c.move_in.new.seats ≡ map (seat_moved_if c.args.id c.args.domain) seats.items = c.move_in.ensures ∙ ap (map (seat_moved_if c.args.id c.args.domain)) c.deref_mut.ensures.value in
    with_items_is seats c.move_in.new.seats (omega (arith, ap length moved, length-map seats.items (seat_moved_if c.args.id c.args.domain), seats.ok.0)) ∙ moved

pub invariant_of-self : goal.invariant_of-self
invariant_of-self c = rw (seats_moved c) (seated_moved c.args.id c.args.domain c.self.invariant)

pub returns-clause-moved : goal.returns-clause-moved
returns-clause-moved c = rw (seats_moved c, ← c.self.view_is) (endpoints_seen-moved c.args.id c.args.domain c.self.inside.seats.items c.self.inside.reserved)

pub returns-clause-few : goal.returns-clause-few
returns-clause-few c =
    let seated = seated_moved c.args.id c.args.domain c.self.invariant in
    rw (seats_moved c) (omega (arith, length-endpoints_seen _ c.self.inside.reserved seated.each, seated.few))
