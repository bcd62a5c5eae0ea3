use Rattle.std.proofs.Common.{arith, length}
use Rattle.vi_control.specs.Awaits.{stands_in_way}
use Rattle.vi_control.proofs.Effects.{length-ids}
use Rattle.vi_control.proofs.Awaited.{flags-filled}
use Rattle.vi_control.proofs.awaiting.awaited.Goals as goal

pub returns : goal.returns
returns c =
    let loop = c.loop-place.invariant in
    let places = length-ids c.args.device.now.dev c.args.removals.now.ids c.requires.endpoints in
    let few = c.requires.few in
    flags-filled (stands_in_way c.args.device.now.dev c.args.removals.now.ids c.args.grants.now c.args.task.now) (length c.args.removals.now.ids) c.loop-place.flags (omega (arith, few, loop.long))
    (λ k lt. loop.told k (omega (arith, lt, c.loop-place-test.false, c.loop-place.auto.place-end, c.endpoints-place-end.ensures, places, few)))
    (λ k le. loop.others k (omega (arith, le, c.loop-place-test.false, c.loop-place.auto.place-end, c.endpoints-place-end.ensures, places, few)))
