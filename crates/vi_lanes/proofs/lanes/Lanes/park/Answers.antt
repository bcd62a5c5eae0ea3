use Rattle.vi_lanes.proofs.Calls.{below_16, parked_kept, parked_now, free_at}
use Rattle.vi_lanes.proofs.lanes.Lanes.park.Goals as goal

pub park-requires-clause-place : goal.park-requires-clause-place
park-requires-clause-place c = below_16 c.self.inside c.args.place c.self.invariant (rw (← c.self.view_is) at c.requires.place)

pub park-requires-clause-free : goal.park-requires-clause-free
park-requires-clause-free c =
    let below = rw (← c.self.view_is) at c.requires.place in
    free_at c.self.inside c.args.place below (rw (← c.self.view_is) at c.requires.free)

pub bounds-self-inside-place : goal.bounds-self-inside-place
bounds-self-inside-place c = below_16 c.self.inside c.args.place c.self.invariant (rw (← c.self.view_is) at c.requires.place)

pub invariant_of-self : goal.invariant_of-self
invariant_of-self c =
    let none = rw (← c.self.view_is) at c.requires.none in
    let sendable = rw c.frame.ensures.frame at c.frame.ensures.sendable in
    rw (c.park.ensures.parked, c.frame.ensures.frame, c.origin.ensures) (parked_kept c.self.inside c.args.place c.args.miss.now c.self.invariant sendable none)

pub returns : goal.returns
returns c =
    let none = rw (← c.self.view_is) at c.requires.none in
    rw (← c.self.view_is, c.park.ensures.parked, c.frame.ensures.frame, c.origin.ensures) (parked_now c.self.inside c.args.place c.args.miss.now none)
