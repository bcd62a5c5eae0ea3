use Rattle.std.proofs.Common.{◌≡◌, arith, refl}
use Rattle.vi_mail.specs.Lanes.{SlottedLanes, no_lanes}
use Rattle.vi_mail.proofs.Rows.{map-replicate, AllHaveSlots-replicate}
use Rattle.vi_mail.proofs.mail.Mail.build.Goals as goal

pub invariant_of-result : goal.invariant_of-result
invariant_of-result c =
    let row : SlottedLanes = record { lanes = no_lanes; slots = c.args.slots } in
    rw c.loop-place.invariant.0 (AllHaveSlots-replicate c.loop-place.place row)

pub returns : goal.returns
returns c =
    let row : SlottedLanes = record { lanes = no_lanes; slots = c.args.slots } in
    let all : c.loop-place.place ≡ c.args.backs = omega arith in
    rw (c.loop-place.invariant.0, map-replicate c.loop-place.place row, all) refl
