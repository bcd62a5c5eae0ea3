use Rattle.std.proofs.Common.{◌+◌, sym, subst}
use Rattle.vi_core.specs.Opening.{AreNew}
use Rattle.vi_core.proofs.OpenedWorld.{one_more}
use Rattle.vi_core.proofs.opening.backs_of.Goals as goal

pub loop-place-preserved : goal.loop-place-preserved
loop-place-preserved c =
    subst (AreNew c.args.script.now (c.loop-place.place + 1)) (sym c.in_ok-push.ensures.items)
    (one_more c.args.script.now c.loop-place.place c.loop-place.backs.items c.in_ok-new.field-0 c.loop-place.invariant
    (record { back = c.in_ok-new.ensures.back; own = c.in_ok-new.ensures.own; seat_is = c.in_ok-new.ensures.seat }))
