use Rattle.std.proofs.Common.{arith, sym, ◌∙◌}
use Rattle.vi_control.proofs.Awaited.{in_way-met}
use Rattle.vi_control.proofs.awaiting.stands_in_way.Goals as goal

pub returns-then-takes : goal.returns-then-takes
returns-then-takes c =
    let proper = rw c.addresses-span.ensures.addresses at c.addresses-span.ensures.proper in
    let closing = c.takes.ensures c.args.device.now.dev in
    let met = in_way-met c.args.device.now.dev c.args.removals.now.ids c.args.grants.now c.args.task.now c.args.place c.takes.result proper (omega (arith, c.requires.place, c.requires.rows)) c.meets-is_met.ensures.rows c.requires.pages
    (λ page lt. closing page c.requires.endpoints (sym c.membership.ensures) lt) in
    rw (c.meets-is_met.ensures.meets, c.addresses-span.ensures.addresses) (sym (rw c.if-takes.true at met))

pub returns-else-takes : goal.returns-else-takes
returns-else-takes c =
    let proper = rw c.addresses-span.ensures.addresses at c.addresses-span.ensures.proper in
    let closing = c.takes.ensures c.args.device.now.dev in
    let met = in_way-met c.args.device.now.dev c.args.removals.now.ids c.args.grants.now c.args.task.now c.args.place c.takes.result proper (omega (arith, c.requires.place, c.requires.rows)) c.meets-is_met.ensures.rows c.requires.pages
    (λ page lt. closing page c.requires.endpoints (sym c.membership.ensures) lt) in
    c.if-takes.false ∙ sym (rw c.if-takes.false at met)
