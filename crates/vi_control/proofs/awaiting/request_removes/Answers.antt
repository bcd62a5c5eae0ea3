use Rattle.vi_control.proofs.Awaited.{accepted-known}
use Rattle.vi_control.proofs.awaiting.request_removes.Goals as goal

pub is_in-requires-clause-known : goal.is_in-requires-clause-known
is_in-requires-clause-known c =
    let ok = rw (c.status-accepted.ensures, c.in-Attach.is) at c.if-not-accepted.false in
    rw (← c.requires.endpoints) (accepted-known c.args.device.now.dev c.in-Attach.domain c.in-Attach.endpoint c.in-Attach.flags ok)
