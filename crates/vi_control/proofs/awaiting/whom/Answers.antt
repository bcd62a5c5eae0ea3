use Rattle.std.proofs.Common.{refl}
use Rattle.vi_control.specs.Awaits.{awaited_in}
use Rattle.vi_control.proofs.Awaited.{somebody}
use Rattle.vi_control.proofs.awaiting.whom.Goals as goal

pub returns-then-is_none-clause-none : goal.returns-then-is_none-clause-none
returns-then-is_none-clause-none c =
    let who = somebody c.awaited-waits.result (awaited_in c.args.device.now.dev c.args.removals.now.ids c.args.grants.now c.args.task.now) c.awaited-waits.ensures in
    rw (who, ← c.is_none.ensures, c.if-is_none.true, ← c.removes.ensures, c.if-not-removes.false) refl

pub returns-clause-some : goal.returns-clause-some
returns-clause-some c =
    let who = somebody c.awaited-waits.result (awaited_in c.args.device.now.dev c.args.removals.now.ids c.args.grants.now c.args.task.now) c.awaited-waits.ensures in
    rw (who, ← c.is_none.ensures, c.if-is_none.false, ← c.removes.ensures, c.if-not-removes.false) refl
