use Rattle.std.proofs.Common.{length, ap, arith}
use Rattle.vi_lanes.proofs.Calls.{in_mail, length-back_down, replied_kept, replied_seen}
use Rattle.vi_lanes.proofs.lanes.Lanes.reply.Goals as goal

pub send-requires-clause-place : goal.send-requires-clause-place
send-requires-clause-place c = in_mail c.self.inside c.args.place c.self.invariant (rw (← c.self.view_is) at c.requires.place)

pub send-requires-clause-room : goal.send-requires-clause-room
send-requires-clause-room c =
    let none = ap length (rw (← c.self.view_is) at c.requires.none) in
    omega (arith, none, length-back_down c.self.inside c.args.place c.self.invariant)

pub invariant_of-self : goal.invariant_of-self
invariant_of-self c = rw c.send.ensures (replied_kept c.self.inside c.args.place c.args.fault c.self.invariant)

pub returns : goal.returns
returns c = rw (← c.self.view_is, c.send.ensures) (replied_seen c.self.inside c.args.place c.args.fault c.self.invariant)
