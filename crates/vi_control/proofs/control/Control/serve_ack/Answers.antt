use Rattle.std.proofs.Common.{ap}
use Rattle.vi_control.specs.Inner.{seen}
use Rattle.vi_control.specs.Value.{with_state}
use Rattle.vi_control.proofs.Acked.{state_acked, kept_ack}
use Rattle.vi_control.proofs.control.Control.serve_ack.Goals as goal

pub invariant_of-self : goal.invariant_of-self
invariant_of-self c =
    let place = rw (← c.self.view_is) at c.requires.place in
    rw (c.take_back.ensures.taken, c.acked-span.ensures.acked, c.take_ack.ensures) (kept_ack c.self.inside c.args.place c.acked-span.result c.self.invariant place)

pub returns : goal.returns
returns c =
    let p = c.self.inside in
    let place = rw (← c.self.view_is) at c.requires.place in
    let removals = rw c.acked-span.ensures.acked at c.acked-span.ensures.removals in
    rw (c.take_back.ensures.taken, c.acked-span.ensures.acked, c.take_ack.ensures, ← c.self.view_is)
    (ap (λ s. with_state s (seen p)) (state_acked p c.args.place c.acked-span.result c.self.invariant place c.take_back.ensures.rows c.acked-span.ensures.addresses c.acked-span.ensures.proper removals))
