use Rattle.vi_lanes.proofs.Calls.{in_mail, taken_kept, without_ack_seen}
use Rattle.vi_mail.specs.declared.row.Lane.TheVariants.{MainUp}
use Rattle.vi_lanes.proofs.lanes.Lanes.take_ack.Goals as goal

pub take-ack-requires : goal.take-ack-requires
take-ack-requires c = in_mail c.self.inside c.args.place c.self.invariant (rw (← c.self.view_is) at c.requires.place)

pub invariant_of-self : goal.invariant_of-self
invariant_of-self c = rw c.take-ack.ensures.rest (taken_kept c.self.inside c.args.place MainUp c.self.invariant)

pub returns : goal.returns
returns c = rw (← c.self.view_is, c.take-ack.ensures.rest) (without_ack_seen c.self.inside c.args.place c.self.invariant)
