use Rattle.std.proofs.Common.{◌≡◌, [], length, ap, ◌∙◌, arith}
use Rattle.vi_mail.specs.Lanes.{lanes_at as row_of}
use Rattle.vi_mail.specs.declared.row.Lane.TheVariants.{MainDown, BackDown}
use Rattle.vi_lanes.proofs.Calls.{in_mail, taken_kept, none_there, reply_is_next, down_is_next, without_reply_seen, without_down_seen}
use Rattle.vi_lanes.proofs.lanes.Lanes.receive.Goals as goal

pub has_frames-requires : goal.has_frames-requires
has_frames-requires c = in_mail c.self.inside c.args.place c.self.invariant (rw (← c.self.view_is) at c.requires)

pub take-requires : goal.take-requires
take-requires c = in_mail c.self.inside c.args.place c.self.invariant (rw (← c.self.view_is) at c.requires)

pub take-requires-else-has_frames : goal.take-requires-else-has_frames
take-requires-else-has_frames c = in_mail c.self.inside c.args.place c.self.invariant (rw (← c.self.view_is) at c.requires)

pub invariant_of-self : goal.invariant_of-self
invariant_of-self c = rw c.take.ensures.rest (taken_kept c.self.inside c.args.place MainDown c.self.invariant)

pub invariant_of-self-else-has_frames : goal.invariant_of-self-else-has_frames
invariant_of-self-else-has_frames c = rw c.take-else-has_frames.ensures.rest (taken_kept c.self.inside c.args.place BackDown c.self.invariant)

pub returns-then-has_frames-clause-frame : goal.returns-then-has_frames-clause-frame
returns-then-has_frames-clause-frame c =
    let some : (row_of c.args.place c.self.inside.mail).main_down ≡ [] → ⊥ = λ none. let z = ap length none in let s = c.has_frames.ensures.some.0 c.if-has_frames.true in omega (arith, z, s) in
    rw (← c.self.view_is) (c.take.ensures.oldest ∙ down_is_next c.self.inside c.args.place c.self.invariant some)

pub returns-then-has_frames-clause-rest : goal.returns-then-has_frames-clause-rest
returns-then-has_frames-clause-rest c =
    let some : (row_of c.args.place c.self.inside.mail).main_down ≡ [] → ⊥ = λ none. let z = ap length none in let s = c.has_frames.ensures.some.0 c.if-has_frames.true in omega (arith, z, s) in
    rw (← c.self.view_is, c.take.ensures.rest) (without_down_seen c.self.inside c.args.place c.self.invariant some)

pub returns-else-has_frames-clause-frame : goal.returns-else-has_frames-clause-frame
returns-else-has_frames-clause-frame c =
    let none = none_there (row_of c.args.place c.self.inside.mail).main_down (λ some. absurd (cc (c.has_frames.ensures.some.1 some, c.if-has_frames.false))) in
    rw (← c.self.view_is) (c.take-else-has_frames.ensures.oldest ∙ reply_is_next c.self.inside c.args.place c.self.invariant none)

pub returns-else-has_frames-clause-rest : goal.returns-else-has_frames-clause-rest
returns-else-has_frames-clause-rest c =
    let none = none_there (row_of c.args.place c.self.inside.mail).main_down (λ some. absurd (cc (c.has_frames.ensures.some.1 some, c.if-has_frames.false))) in
    rw (← c.self.view_is, c.take-else-has_frames.ensures.rest) (without_reply_seen c.self.inside c.args.place c.self.invariant none)
