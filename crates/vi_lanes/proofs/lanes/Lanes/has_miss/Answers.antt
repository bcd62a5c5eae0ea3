use Rattle.vi_lanes.proofs.Calls.{in_mail, length-back_up}
use Rattle.vi_lanes.proofs.lanes.Lanes.has_miss.Goals as goal

pub has_frames-requires : goal.has_frames-requires
has_frames-requires c = in_mail c.self.inside c.args.place c.self.invariant (rw (← c.self.view_is) at c.requires)

pub returns-clause-some : goal.returns-clause-some
returns-clause-some c = rw (← c.self.view_is, ← length-back_up c.self.inside c.args.place c.self.invariant) c.has_frames.ensures.some

pub returns-clause-test : goal.returns-clause-test
returns-clause-test c = rw (← c.self.view_is, ← length-back_up c.self.inside c.args.place c.self.invariant) c.has_frames.ensures.test
