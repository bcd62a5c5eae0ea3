use Rattle.std.proofs.Common.{◌≡◌, None, get_or, refl, sym, ◌∙◌}
use Rattle.vi_lanes.proofs.Calls.{below_16, parked_frame, parked_is_kept, parked_found, unparked_kept, unparked_seen, alone_unparked, free_unparked}
use Rattle.vi_lanes.proofs.lanes.Lanes.unpark.Goals as goal

pub take-requires : goal.take-requires
take-requires c = below_16 c.self.inside c.args.place c.self.invariant (rw (← c.self.view_is) at c.requires)

pub invariant_of-self : goal.invariant_of-self
invariant_of-self c = rw c.take.ensures.rest (unparked_kept c.self.inside c.args.place c.self.invariant)

pub returns-in_err-frame-clause-parked : goal.returns-in_err-frame-clause-parked
returns-in_err-frame-clause-parked c =
    let below = rw (← c.self.view_is) at c.requires in
    let none : get_or c.self.inside.parked c.args.place None ≡ None = sym c.take.ensures.parked ∙ c.in_err-frame.was in
    rw (← c.self.view_is, parked_frame c.self.inside c.args.place below, none, c.from_residual.ensures) refl

pub returns-in_err-frame-clause-rest : goal.returns-in_err-frame-clause-rest
returns-in_err-frame-clause-rest c = rw (← c.self.view_is, c.take.ensures.rest) (unparked_seen c.self.inside c.args.place)

pub miss_in-requires-clause-sendable : goal.miss_in-requires-clause-sendable
miss_in-requires-clause-sendable c =
    let below = rw (← c.self.view_is) at c.requires in
    (parked_is_kept c.self.inside c.args.place c.in_ok-frame.frame c.self.invariant below (sym c.take.ensures.parked ∙ c.in_ok-frame.was)).sendable

pub invariant_of-self-2 : goal.invariant_of-self-2
invariant_of-self-2 c = rw c.take.ensures.rest (unparked_kept c.self.inside c.args.place c.self.invariant)

pub returns-clause-parked : goal.returns-clause-parked
returns-clause-parked c =
    let below = rw (← c.self.view_is) at c.requires in
    rw (← c.self.view_is) (parked_found c.self.inside c.args.place c.in_ok-frame.frame c.miss_in.result below (sym c.take.ensures.parked ∙ c.in_ok-frame.was) c.miss_in.ensures.miss)

pub returns-clause-rest : goal.returns-clause-rest
returns-clause-rest c = rw (← c.self.view_is, c.take.ensures.rest) (unparked_seen c.self.inside c.args.place)

pub returns-in_err-frame-clause-free : goal.returns-in_err-frame-clause-free
returns-in_err-frame-clause-free c =
    let below = rw (← c.self.view_is) at c.requires in
    rw c.take.ensures.rest (free_unparked c.self.inside c.args.place below)

pub returns-clause-free : goal.returns-clause-free
returns-clause-free c =
    let below = rw (← c.self.view_is) at c.requires in
    rw c.take.ensures.rest (free_unparked c.self.inside c.args.place below)

pub returns-clause-alone : goal.returns-clause-alone
returns-clause-alone c =
    let below = rw (← c.self.view_is) at c.requires in
    rw c.take.ensures.rest (alone_unparked c.self.inside c.args.place c.in_ok-frame.frame c.self.invariant below (sym c.take.ensures.parked ∙ c.in_ok-frame.was))
