use Rattle.std.proofs.Common.{arith}
use Rattle.vi_model.specs.Tasks.{reach_between}
use Rattle.vi_control.proofs.Telling.{told-filled}
use Rattle.vi_control.proofs.awaiting.tell.Goals as goal

pub returns : goal.returns
returns c =
    let loop = c.loop-place.invariant in
    told-filled c.args.waits.now.0 (reach_between c.args.span.now.first c.args.span.now.last) c.args.lanes.now c.loop-place.lanes c.args.places c.requires.places loop.long loop.parked
    (λ k lt. loop.told k (omega (arith, lt, c.loop-place-test.false, c.loop-place.auto.place-end)))
