use Rattle.std.proofs.Common.{◌≡◌, None, get_or, refl, sym, ◌∙◌}
use Rattle.vi_lanes.proofs.Calls.{below_16, parked_frame, parked_is_kept, parked_found}
use Rattle.vi_lanes.proofs.lanes.Lanes.parked.Goals as goal

pub peek-requires : goal.peek-requires
peek-requires c = below_16 c.self.inside c.args.place c.self.invariant (rw (← c.self.view_is) at c.requires)

pub returns-in_err-frame-clause-parked : goal.returns-in_err-frame-clause-parked
returns-in_err-frame-clause-parked c =
    let below = rw (← c.self.view_is) at c.requires in
    let none : get_or c.self.inside.parked c.args.place None ≡ None = sym c.peek.ensures.parked ∙ c.in_err-frame.was in
    rw (← c.self.view_is, parked_frame c.self.inside c.args.place below, none, c.from_residual.ensures) refl

pub miss_in-requires-clause-sendable : goal.miss_in-requires-clause-sendable
miss_in-requires-clause-sendable c =
    let below = rw (← c.self.view_is) at c.requires in
    (parked_is_kept c.self.inside c.args.place c.in_ok-frame.frame c.self.invariant below (sym c.peek.ensures.parked ∙ c.in_ok-frame.was)).sendable

pub returns-clause-parked : goal.returns-clause-parked
returns-clause-parked c =
    let below = rw (← c.self.view_is) at c.requires in
    rw (← c.self.view_is) (parked_found c.self.inside c.args.place c.in_ok-frame.frame c.miss_in.result below (sym c.peek.ensures.parked ∙ c.in_ok-frame.was) c.miss_in.ensures.miss)
