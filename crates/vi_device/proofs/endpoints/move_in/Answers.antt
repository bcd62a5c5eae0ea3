use Rattle.std.proofs.Common.{◌≡◌, ◌==◌, ◌<◌, true, false, length, set, get_or, refl, ap, ◌∙◌, arith}
use Rattle.std.proofs.lemmas.Bool.{eq-eqb, ne_eqb}
use Rattle.std.proofs.lemmas.List.{get_or_default}
use Rattle.std.proofs.lemmas.List.Edits.{map_over_more}
use Rattle.vi_bytes.specs.declared.region.Membership.TheVariants.{Unattached}
use Rattle.vi_device.specs.Seated.{seat_moved_if}
use Rattle.vi_device.specs.declared.seat.Seat.{Seat}
use Rattle.vi_device.proofs.endpoints.move_in.Goals as goal
use Rattle.vi_device.proofs.endpoints.move_in.Goals.{then-seat-id, else-seat-id}

pub loop-seat-preserved : goal.loop-seat-preserved
loop-seat-preserved c =
    let seats = c.loop-seat.seats in
    let place = c.loop-seat.seat-index in
    let nothing : Seat = record { id = 0; domain = Unattached } in
    let x : Seat = get_or seats place nothing in
    let f : Seat → Seat = seat_moved_if c.args.id c.args.domain in
    let within : place < length seats = omega (arith, c.loop-seat-test.true, c.loop-seat.auto.seats) in
    let more = map_over_more f c.args.seats.now seats place x c.loop-seat-test.true c.loop-seat.invariant (get_or_default seats place nothing x within) in
    elim c.if-seat-id.branch [
      | then-seat-id w ↦
          let test : (x.id == c.args.id) ≡ true = eq-eqb x.id c.args.id w.if-seat-id.true in
          let same : record { id = x.id; domain = c.args.domain } ≡ f x = rw test refl in
          w.seats-is ∙ ap (set seats place) same ∙ more
      | else-seat-id w ↦
          let test : (x.id == c.args.id) ≡ false = ne_eqb x.id c.args.id w.if-seat-id.false in
          let same : x ≡ f x = rw test refl in
          w.seats-is ∙ ap (set seats place) same ∙ more
    ]
