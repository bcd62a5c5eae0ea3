use Rattle.std.proofs.Common.{sym}
use Rattle.vi_core.proofs.BackTurnsLinks.{has_placed}
use Rattle.vi_core.proofs.BackTurns.{may_ask, asks}
use Rattle.vi_core.proofs.conversing.ask.Goals as goal

pub post-requires : goal.post-requires
post-requires c =
    let lt = rw (sym c.requires.room.endpoint) at c.requires.room.below in
    rw c.id.ensures (has_placed c.args.control.now.plan.ids c.args.back.now.id lt)

pub send-requires-clause-may : goal.send-requires-clause-may
send-requires-clause-may c =
    let p = rw (c.id.ensures, c.finished.ensures.count) at c.post.ensures in
    may_ask c.args.control.now _ c.args.place c.args.back.now _ c.requires.room c.parts_join.ensures.joined c.requires.wish p

pub returns-clause-exchange : goal.returns-clause-exchange
returns-clause-exchange c =
    let p = rw (c.id.ensures, c.finished.ensures.count) at c.post.ensures in
    asks c.args.control.now _ _ c.args.place c.args.back.now _ _ c.requires.room c.parts_join.ensures.joined c.requires.wish p c.send.ensures c.asked.ensures.seat
