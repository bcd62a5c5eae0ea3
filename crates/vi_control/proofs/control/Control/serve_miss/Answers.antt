use Rattle.std.proofs.Common.{◌≡◌, ℕ, [], get_or, Some, ap, sym, ◌∙◌}
use Rattle.vi_device.specs.Values as device
use Rattle.vi_lanes.specs.Frames.{said}
use Rattle.vi_model.specs.Control.{link_of}
use Rattle.vi_model.specs.Places.{id_at}
use Rattle.vi_lines.specs.Value.{ScriptValue}
use Rattle.vi_control.specs.Inner.{seen}
use Rattle.vi_control.specs.Places.{id_in}
use Rattle.vi_control.specs.Plan.{plan_of}
use Rattle.vi_control.specs.Serving.{planned_id, faulted_for, fault_mark}
use Rattle.vi_control.specs.Value.{ControlValue, entry_with}
use Rattle.vi_control.proofs.Linking.{state_parked}
use Rattle.vi_control.proofs.Missing.{quiet, loud, miss_shut, miss_granted, miss_faulted}
use Rattle.vi_control.proofs.Reasons.{reason_most}
use Rattle.vi_control.proofs.Working.{planned_ids, planned_buffers}
use Rattle.vi_control.proofs.control.Control.serve_miss.Goals as goal

-- the id of the endpoint at a place, by the script
named : (s : ScriptValue) (v : ControlValue) (place : ℕ) → plan_of s ≡ v.plan → id_at s place ≡ planned_id v place
named s v place e = ap (λ ids. get_or ids place 0) (planned_ids s v.plan e)

pub returns-then-is_closed-clause-turn : goal.returns-then-is_closed-clause-turn
returns-then-is_closed-clause-turn c =
    let p = c.self.inside in
    rw (c.park.ensures, ← c.self.view_is)
    (λ s e. miss_shut (planned_id (seen p) c.args.place) s (seen p).state c.args.place (link_of (seen p).state c.args.place) (said c.args.miss.now) (named s (seen p) c.args.place e) (sym c.is_closed.ensures ∙ c.if-is_closed.true)
    ∙ ap quiet (state_parked p c.args.place (Some (said c.args.miss.now))))

pub fault-requires-clause-reason : goal.fault-requires-clause-reason
fault-requires-clause-reason c =
    reason_most c.self.inside.device.dev (device.id_at c.self.inside.device.dev c.args.place) c.args.miss.now.iova c.args.miss.now.need c.in-Fault.reason (sym c.translate.ensures ∙ c.in-Fault.is)

pub returns-in-At-clause-turn : goal.returns-in-At-clause-turn
returns-in-At-clause-turn c =
    let p = c.self.inside in
    let same : device.id_at p.device.dev c.args.place ≡ id_in p.removals c.args.place = ap (λ ids. get_or ids c.args.place 0) c.self.invariant.endpoints in
    rw (c.grant.ensures, ← c.self.view_is)
    (λ s e. miss_granted (planned_id (seen p) c.args.place) s (seen p).state c.args.place (link_of (seen p).state c.args.place) (said c.args.miss.now) c.in-At.field-0 (named s (seen p) c.args.place e) (sym c.is_closed.ensures ∙ c.if-is_closed.false)
    (rw same at (sym c.translate.ensures ∙ c.in-At.is)))

pub returns-in-Fault-clause-turn : goal.returns-in-Fault-clause-turn
returns-in-Fault-clause-turn c =
    let p = c.self.inside in
    let same : device.id_at p.device.dev c.args.place ≡ id_in p.removals c.args.place = ap (λ ids. get_or ids c.args.place 0) c.self.invariant.endpoints in
    let none : (seen p).answered ≡ [] = rw (← c.self.view_is) at c.requires.answered in
    rw (c.fault.ensures.state, c.fault.ensures.mark, ← c.self.view_is)
    (λ s e. miss_faulted (planned_id (seen p) c.args.place) (let v : ControlValue = seen p in v.plan.buffers) s (seen p).state c.args.place (link_of (seen p).state c.args.place) (said c.args.miss.now) c.in-Fault.reason
    (named s (seen p) c.args.place e) (planned_buffers s (seen p).plan e) (sym c.is_closed.ensures ∙ c.if-is_closed.false) (rw same at (sym c.translate.ensures ∙ c.in-Fault.is))
    ∙ ap (λ bytes. loud (faulted_for (seen p) c.args.place (said c.args.miss.now) c.in-Fault.reason) (entry_with bytes (fault_mark (planned_id (seen p) c.args.place) (said c.args.miss.now) c.in-Fault.reason))) (sym none))
