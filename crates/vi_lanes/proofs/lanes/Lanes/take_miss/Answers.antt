use Rattle.std.proofs.Common.{◌≡◌, None, slice_get, refl, sym, ◌∙◌}
use Rattle.vi_mail.specs.Lanes.{lanes_at as row_of}
use Rattle.vi_mail.specs.declared.row.Lane.TheVariants.{BackUp}
use Rattle.vi_lanes.proofs.Calls.{in_mail, oldest_seen, oldest_is_asking, oldest_found, taken_kept, without_miss_seen, alone_taken, free_taken}
use Rattle.vi_lanes.proofs.lanes.Lanes.take_miss.Goals as goal

pub take-requires : goal.take-requires
take-requires c = in_mail c.self.inside c.args.place c.self.invariant (rw (← c.self.view_is) at c.requires)

pub invariant_of-self : goal.invariant_of-self
invariant_of-self c = rw c.take.ensures.rest (taken_kept c.self.inside c.args.place BackUp c.self.invariant)

pub returns-in_err-frame-clause-oldest : goal.returns-in_err-frame-clause-oldest
returns-in_err-frame-clause-oldest c =
    let none : slice_get (row_of c.args.place c.self.inside.mail).back_up 0 ≡ None = sym c.take.ensures.oldest ∙ c.in_err-frame.was in
    rw (← c.self.view_is, oldest_seen c.self.inside c.args.place c.self.invariant, none, c.from_residual.ensures) refl

pub returns-in_err-frame-clause-rest : goal.returns-in_err-frame-clause-rest
returns-in_err-frame-clause-rest c = rw (← c.self.view_is, c.take.ensures.rest) (without_miss_seen c.self.inside c.args.place c.self.invariant)

pub miss_in-requires-clause-asking : goal.miss_in-requires-clause-asking
miss_in-requires-clause-asking c = oldest_is_asking c.self.inside c.args.place c.in_ok-frame.frame c.self.invariant (sym c.in_ok-frame.was ∙ c.take.ensures.oldest)

pub invariant_of-self-2 : goal.invariant_of-self-2
invariant_of-self-2 c = rw c.take.ensures.rest (taken_kept c.self.inside c.args.place BackUp c.self.invariant)

pub returns-clause-oldest : goal.returns-clause-oldest
returns-clause-oldest c =
    let below = rw (← c.self.view_is) at c.requires in
    rw (← c.self.view_is) (oldest_found c.self.inside c.args.place c.in_ok-frame.frame c.miss_in.result c.self.invariant below (sym c.in_ok-frame.was ∙ c.take.ensures.oldest) c.miss_in.ensures.miss)

pub returns-clause-rest : goal.returns-clause-rest
returns-clause-rest c = rw (← c.self.view_is, c.take.ensures.rest) (without_miss_seen c.self.inside c.args.place c.self.invariant)

pub returns-in_err-frame-clause-alone : goal.returns-in_err-frame-clause-alone
returns-in_err-frame-clause-alone c =
    let below = rw (← c.self.view_is) at c.requires in
    rw c.take.ensures.rest (alone_taken c.self.inside c.args.place c.self.invariant below)

pub returns-clause-alone : goal.returns-clause-alone
returns-clause-alone c =
    let below = rw (← c.self.view_is) at c.requires in
    rw c.take.ensures.rest (alone_taken c.self.inside c.args.place c.self.invariant below)

pub returns-clause-free : goal.returns-clause-free
returns-clause-free c = rw c.take.ensures.rest (free_taken c.self.inside c.args.place c.in_ok-frame.frame c.self.invariant (sym c.in_ok-frame.was ∙ c.take.ensures.oldest))
