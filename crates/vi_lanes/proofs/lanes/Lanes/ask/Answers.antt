use Rattle.std.proofs.Common.{length, ap, arith}
use Rattle.vi_lanes.proofs.Calls.{in_mail, below_16, length-back_up, asked_kept, asked_seen}
use Rattle.vi_lanes.proofs.lanes.Lanes.ask.Goals as goal

pub send-requires-clause-place : goal.send-requires-clause-place
send-requires-clause-place c = in_mail c.self.inside c.args.place c.self.invariant (rw (← c.self.view_is) at c.requires.place)

pub send-requires-clause-room : goal.send-requires-clause-room
send-requires-clause-room c =
    let none = ap length (rw (← c.self.view_is) at c.requires.none) in
    omega (arith, none, length-back_up c.self.inside c.args.place c.self.invariant)

pub bounds-self-inside-place : goal.bounds-self-inside-place
bounds-self-inside-place c = below_16 c.self.inside c.args.place c.self.invariant (rw (← c.self.view_is) at c.requires.place)

pub invariant_of-self : goal.invariant_of-self
invariant_of-self c =
    let none = rw (← c.self.view_is) at c.requires.none in
    let free = rw (← c.self.view_is) at c.requires.free in
    rw (c.send.ensures, c.frame.ensures.frame, c.origin.ensures) (asked_kept c.self.inside c.args.place c.args.miss.now c.self.invariant none free)

pub returns : goal.returns
returns c =
    let none = rw (← c.self.view_is) at c.requires.none in
    let free = rw (← c.self.view_is) at c.requires.free in
    rw (← c.self.view_is, c.send.ensures, c.frame.ensures.frame, c.origin.ensures) (asked_seen c.self.inside c.args.place c.args.miss.now c.self.invariant none free)
