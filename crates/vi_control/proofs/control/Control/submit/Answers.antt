use Rattle.std.proofs.Common.{arith}
use Rattle.vi_control.proofs.OpenCalls.{open_below}
use Rattle.vi_control.proofs.control.Control.submit.Goals as goal

pub submit-requires-clause-room : goal.submit-requires-clause-room
submit-requires-clause-room c =
    let few = rw (← c.self.view_is) at c.requires.room in
    omega (arith, open_below c.self.inside c.self.invariant.tied, few)
