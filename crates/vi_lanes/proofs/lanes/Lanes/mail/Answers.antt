use Rattle.std.proofs.Common.{arith, refl}
use Rattle.vi_lanes.proofs.Tables.{rows-are}
use Rattle.vi_lanes.proofs.lanes.Lanes.mail.Goals as goal

pub returns : goal.returns
returns c =
    let k = c.self.invariant in
    rw (← c.self.view_is, rows-are c.self.inside.mail.rows c.self.inside.parked c.self.inside.origins (omega (arith, k.rows, k.parked)) (omega (arith, k.rows, k.origins)) k.desks, ← k.slots) refl
