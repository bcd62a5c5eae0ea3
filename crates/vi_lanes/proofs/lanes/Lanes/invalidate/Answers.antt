use Rattle.std.proofs.Common.{ap, arith}
use Rattle.vi_iotlb.specs.declared.frame.Frame.TheVariants as frame
use Rattle.vi_lanes.proofs.Kept.{span_of-reach_between}
use Rattle.vi_lanes.proofs.Calls.{in_mail, length-main_down, told_kept, told_seen}
use Rattle.vi_lanes.proofs.lanes.Lanes.invalidate.Goals as goal

pub send-requires-clause-place : goal.send-requires-clause-place
send-requires-clause-place c = in_mail c.self.inside c.args.place c.self.invariant (rw (← c.self.view_is) at c.requires.place)

pub send-requires-clause-room : goal.send-requires-clause-room
send-requires-clause-room c =
    let room = rw (← c.self.view_is) at c.requires.room in
    omega (arith, room, length-main_down c.self.inside c.args.place c.self.invariant, c.self.invariant.slots)

pub invariant_of-self : goal.invariant_of-self
invariant_of-self c =
    let same = ap (λ span. frame.Invalidate span) (span_of-reach_between c.args.span.now.first c.args.span.now.last) in
    rw (c.send.ensures, c.invalidating.ensures.frame) (told_kept c.self.inside c.args.place (frame.Invalidate c.args.span.now) c.self.invariant same)

pub returns : goal.returns
returns c = rw (← c.self.view_is, c.send.ensures, c.invalidating.ensures.frame) (told_seen c.self.inside c.args.place (frame.Invalidate c.args.span.now) c.self.invariant)
