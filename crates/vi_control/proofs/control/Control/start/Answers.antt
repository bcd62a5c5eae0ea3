use Rattle.std.proofs.Common.{refl, length, take, arith}
use Rattle.vi_control.proofs.Effects.{length-ids}
use Rattle.vi_control.proofs.Awaited.{must-somebody, flags-first, flags-others}
use Rattle.vi_control.proofs.Ties.{next-token, tied-answered}
use Rattle.vi_control.proofs.StartRooms.{next-answers, next-room, task-room, length-removals}
use Rattle.vi_control.proofs.StartKept.{kept-answered, kept-begun, length-next}
use Rattle.vi_control.proofs.StartTurns.{nothing-starts, answer-turn, begin-turn}
use Rattle.vi_control.proofs.control.Control.start.Goals as goal

pub returns-in_err-call-clause-turn : goal.returns-in_err-call-clause-turn
returns-in_err-call-clause-turn c = λ s plan.
    let p = c.self.inside in
    let none = c.in_err-call.ensures.none in
    let starts' = rw (← c.self.view_is) at (c.requires.work s plan) in
    absurd (nothing-starts s _ none.queue none.none starts')

pub answer-mark-requires-clause-device : goal.answer-mark-requires-clause-device
answer-mark-requires-clause-device c =
    let p = c.self.inside in
    let room = rw (← c.self.view_is) at c.requires.room in
    let start = next-room p c.next_call.new.calls c.in_ok-call.call room c.in_ok-call.ensures.next in
    task-room p.device c.in_ok-call.call.task start.mapping

pub answer-mark-requires-clause-token : goal.answer-mark-requires-clause-token
answer-mark-requires-clause-token c = next-token c.self.inside.calls c.next_call.new.calls c.in_ok-call.call c.in_ok-call.ensures.next

pub answer-mark-requires-clause-room : goal.answer-mark-requires-clause-room
answer-mark-requires-clause-room c =
    let few = rw (← c.self.view_is) at c.requires.room.calls in
    next-answers c.self.inside c.next_call.new.calls c.in_ok-call.call few c.in_ok-call.ensures.next

pub invariant_of-self-in-None : goal.invariant_of-self-in-None
invariant_of-self-in-None c =
    let p = c.self.inside in
    let next = c.in_ok-call.ensures.next in
    kept-answered p c.in_ok-call.call c.answer-mark.new.device c.answer-mark.new.calls c.next_call.new.calls p.removals c.configure.new.config c.answer-mark.new.properties c.answer-mark.new.probed _ c.self.invariant
    c.answer-mark.ensures.device c.answer-mark.ensures.calls (length-next p.calls c.next_call.new.calls c.in_ok-call.call next) refl (c.configure.ensures p.device.dev c.self.invariant.config)
    (tied-answered p.calls c.next_call.new.calls p.removals.opened c.in_ok-call.call c.self.invariant.tied next)

pub returns-in-None-clause-turn : goal.returns-in-None-clause-turn
returns-in-None-clause-turn c = λ s plan.
    let p = c.self.inside in
    let plan' = rw (← c.self.view_is) at plan in
    let starts' = rw (← c.self.view_is) at (c.requires.work s plan) in
    rw (← c.self.view_is) (answer-turn s p c.next_call.new.calls c.in_ok-call.call c.answer-mark.new.device c.answer-mark.new.calls c.configure.new.config c.answer-mark.new.properties c.answer-mark.new.probed c.answer-mark.result
    plan' starts' c.in_ok-call.ensures.next c.in-None.ensures.none c.answer-mark.ensures.device c.answer-mark.ensures.calls c.answer-mark.ensures.entry)

pub begin-requires-clause-someone : goal.begin-requires-clause-someone
begin-requires-clause-someone c =
    let p = c.self.inside in
    must-somebody p.device.dev p.removals.ids p.grants c.in_ok-call.call.task c.in-Some.waits c.in-Some.ensures.some c.in-Some.ensures.flags

pub begin-requires-clause-beyond : goal.begin-requires-clause-beyond
begin-requires-clause-beyond c =
    let p = c.self.inside in
    flags-others p.device.dev p.removals.ids p.grants c.in_ok-call.call.task c.in-Some.waits c.in-Some.ensures.flags

pub begin-requires-clause-room : goal.begin-requires-clause-room
begin-requires-clause-room c =
    let p = c.self.inside in
    let room = rw (← c.self.view_is) at c.requires.room in
    let start = next-room p c.next_call.new.calls c.in_ok-call.call room c.in_ok-call.ensures.next in
    omega (arith, start.removal, length-removals p.removals.opened)

pub begin-requires-clause-down : goal.begin-requires-clause-down
begin-requires-clause-down c = λ place lt.
    let p = c.self.inside in
    let room = rw (← c.self.view_is) at c.requires.room in
    let start = next-room p c.next_call.new.calls c.in_ok-call.call room c.in_ok-call.ensures.next in
    let places = length-ids p.device.dev p.removals.ids c.self.invariant.endpoints in
    start.lanes place (omega (arith, lt, c.endpoints.ensures, places))

pub invariant_of-self-in-Some : goal.invariant_of-self-in-Some
invariant_of-self-in-Some c =
    let p = c.self.inside in
    kept-begun p c.in_ok-call.call c.next_call.new.calls c.begin.new.removals c.begin.new.lanes (take (length p.removals.ids) c.in-Some.waits.0) c.self.invariant c.in_ok-call.ensures.next c.begin.ensures.removals c.begin.ensures.lanes

pub returns-in-Some-clause-turn : goal.returns-in-Some-clause-turn
returns-in-Some-clause-turn c = λ s plan.
    let p = c.self.inside in
    let plan' = rw (← c.self.view_is) at plan in
    let starts' = rw (← c.self.view_is) at (c.requires.work s plan) in
    let who = flags-first p.device.dev p.removals.ids p.grants c.in_ok-call.call.task c.in-Some.waits c.in-Some.ensures.flags in
    rw (← c.self.view_is) (begin-turn s p c.next_call.new.calls c.in_ok-call.call (take (length p.removals.ids) c.in-Some.waits.0) c.begin.new.removals c.begin.new.lanes
    plan' starts' c.in_ok-call.ensures.next c.in-Some.ensures.some who c.begin.ensures.removals c.begin.ensures.lanes)
