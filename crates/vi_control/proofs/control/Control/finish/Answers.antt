use Rattle.std.proofs.Common.{refl}
use Rattle.vi_control.proofs.Ties.{ready-token, tied-ready}
use Rattle.vi_control.proofs.StartRooms.{finish-room, taking-room}
use Rattle.vi_control.proofs.StartKept.{kept-answered}
use Rattle.vi_control.proofs.StartTurns.{finish-turn}
use Rattle.vi_control.proofs.control.Control.finish.Goals as goal

pub answer-requires-clause-device : goal.answer-requires-clause-device
answer-requires-clause-device c = taking-room c.self.inside.device c.self.inside.removals.ids c.take_ready-call.result.task c.take_ready-call.ensures.taking

pub answer-requires-clause-token : goal.answer-requires-clause-token
answer-requires-clause-token c =
    let p = c.self.inside in
    ready-token p.calls p.removals.opened c.self.invariant.tied c.take_ready-call.result c.take_ready-call.ensures.first

pub answer-requires-clause-room : goal.answer-requires-clause-room
answer-requires-clause-room c =
    let few = rw (← c.self.view_is) at c.requires.room.calls in
    let ready = rw (← c.self.view_is) at c.requires.ready in
    finish-room c.self.inside c.take_ready-call.result.driver few ready

pub invariant_of-self : goal.invariant_of-self
invariant_of-self c =
    let p = c.self.inside in
    let tied = tied-ready p.calls p.removals.opened c.self.invariant.tied c.take_ready-call.result c.take_ready-call.ensures.first in
    let left = c.take_ready-call.ensures.left in
    kept-answered p c.take_ready-call.result c.answer.new.device c.answer.new.calls p.calls c.take_ready-call.new.removals c.configure.new.config c.answer.new.properties c.answer.new.probed _ c.self.invariant
    c.answer.ensures.device c.answer.ensures.calls refl (rw left refl) (c.configure.ensures p.device.dev c.self.invariant.config) (rw left tied)

pub returns-clause-turn : goal.returns-clause-turn
returns-clause-turn c = λ s plan.
    let p = c.self.inside in
    rw (← c.self.view_is) (finish-turn s p c.take_ready-call.result c.take_ready-call.new.removals c.answer.new.device c.answer.new.calls c.configure.new.config c.answer.new.properties c.answer.new.probed c.answer.result
    c.take_ready-call.ensures.left c.take_ready-call.ensures.first c.take_ready-call.ensures.removal c.take_ready-call.ensures.removals c.answer.ensures.device c.answer.ensures.calls c.answer.ensures.entry)
