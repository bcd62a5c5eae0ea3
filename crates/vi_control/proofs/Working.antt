-- The device's next work, by the script and by the parts of a control.
use Rattle.std.proofs.Common.{◌≡◌, ℕ, Bool, true, false, List, [], ◌∷◌, length, Option, Some, None, is_some, refl, ap, sym, ◌∙◌}
use Rattle.std.specs.List.{find, range_with_len}
use Rattle.std.proofs.lemmas.List.{length-map}
use Rattle.vi_calls.specs.Moves.{first_setting}
use Rattle.vi_lanes.specs.Value.{parked_at}
use Rattle.vi_model.specs.Control.{Queued, Control}
use Rattle.vi_model.specs.Device as model
use Rattle.vi_model.specs.Device.{device_turn}
use Rattle.vi_model.specs.Lanes.{Miss}
use Rattle.vi_model.specs.Places.{ids_of, place_count}
use Rattle.vi_model.specs.Removals.{Removal, is_ready}
use Rattle.vi_removals.specs.Value.{removals_of}
use Rattle.vi_lines.specs.Value.{ScriptValue}
use Rattle.vi_control.specs.Cascade.{work_by_ready, work_by_free, work_by_frame, work_by_queue, work_in}
use Rattle.vi_control.specs.Inner.{seen, IsKept}
use Rattle.vi_control.specs.Places.{is_free_at, first_free_in, first_frame_in}
use Rattle.vi_control.specs.Plan.{Plan, plan_of}
use Rattle.vi_control.specs.Work.{work_of, finish_work, parked_work, frame_work, queue_work, setting_work}
use Rattle.vi_control.specs.declared.control.Control.TheInside.{Inside}
use Rattle.vi_control.specs.declared.work.Work.TheVariants.{Finish, Idle}
use Rattle.vi_control.proofs.Finding.{find_alike, any_is_found}

-- what a plan has of its script
pub planned_ids : (s : ScriptValue) (p : Plan) → plan_of s ≡ p → ids_of s ≡ p.ids
unfolding plan_of
planned_ids s p e = ap (λ (q : Plan). q.ids) e

pub planned_buffers : (s : ScriptValue) (p : Plan) → plan_of s ≡ p → s.setup.queue ≡ p.buffers
unfolding plan_of
planned_buffers s p e = ap (λ (q : Plan). q.buffers) e

-- the parked misses whose pages aren't closed
free_alike : (s : ScriptValue) (p : Inside) (place : ℕ) (o : Option Miss) → ids_of s ≡ p.removals.ids
    → model.is_free s (seen p).state place o ≡ is_free_at p.device.dev p.removals place o
free_alike s p place None e = refl
free_alike s p place (Some m) e = rw e refl

pub first_free_is : (s : ScriptValue) (p : Inside) → ids_of s ≡ p.removals.ids → model.first_free s (seen p).state ≡ first_free_in p.device.dev p.removals p.lanes
first_free_is s p e =
    find_alike (λ place. model.is_free s (seen p).state place (parked_at place p.lanes)) (λ place. is_free_at p.device.dev p.removals place (parked_at place p.lanes)) (range_with_len 0 (place_count s))
    (λ place. free_alike s p place (parked_at place p.lanes) e)
    ∙ ap (λ ids. find (λ place. is_free_at p.device.dev p.removals place (parked_at place p.lanes)) (range_with_len 0 (length ids))) e

pub first_frame_is : (s : ScriptValue) (p : Inside) → ids_of s ≡ p.removals.ids → model.first_frame s (seen p).state ≡ first_frame_in (length p.removals.ids) p.lanes
first_frame_is s p e = rw e refl

-- with the number of places as the device has it
pub frame_found : (s : ScriptValue) (p : Inside) (n : ℕ) (o : Option ℕ) → ids_of s ≡ p.removals.ids → IsKept p → n ≡ length p.device.dev.endpoints → first_frame_in n p.lanes ≡ o → model.first_frame s (seen p).state ≡ o
frame_found s p n o e kept count found =
    let all : length p.removals.ids ≡ n = sym (ap length kept.endpoints) ∙ (length-map p.device.dev.endpoints (λ x. x.id) ∙ sym count) in
    first_frame_is s p e ∙ (ap (λ k. first_frame_in k p.lanes) all ∙ found)

-- the cascade
queue_is : (c : Control) (queue : List Queued) → queue_work c queue ≡ work_by_queue queue (model.first_setting c)
queue_is c [] = refl
queue_is c (q ∷ rest) = refl

frame_is : (c : Control) (o : Option ℕ) → frame_work c o ≡ work_by_frame o c.queue (model.first_setting c)
frame_is c None = queue_is c c.queue
frame_is c (Some place) = refl

free_is : (s : ScriptValue) (c : Control) (o : Option ℕ) → parked_work s c o ≡ work_by_free o (model.first_frame s c) c.queue (model.first_setting c)
free_is s c None = frame_is c (model.first_frame s c)
free_is s c (Some place) = refl

ready_is : (s : ScriptValue) (c : Control) (o : Option Removal) → finish_work s c o ≡ work_by_ready (is_some o) (model.first_free s c) (model.first_frame s c) c.queue (model.first_setting c)
ready_is s c None = free_is s c (model.first_free s c)
ready_is s c (Some r) = refl

pub work_is : (s : ScriptValue) (p : Inside) → ids_of s ≡ p.removals.ids → work_of s (seen p).state ≡ work_in p.device.dev p.calls p.removals p.lanes
unfolding work_of
work_is s p e =
    ready_is s (seen p).state (find is_ready (removals_of p.removals))
    ∙ ap (λ b. work_by_ready b (model.first_free s (seen p).state) (model.first_frame s (seen p).state) p.calls.queue (first_setting p.calls)) (sym (any_is_found is_ready (removals_of p.removals)))
    ∙ rw (first_free_is s p e, first_frame_is s p e) refl

-- where there is no work the device waits
idle_setting : (s : ScriptValue) (c : Control) (o : Option ℕ) → setting_work o ≡ Idle → model.rule_setting s c o ≡ None
idle_setting s c None idle = refl
idle_setting s c (Some driver) idle = absurd cc

idle_queue : (s : ScriptValue) (c : Control) (queue : List Queued) → queue_work c queue ≡ Idle → model.rule_queue s c queue ≡ None
idle_queue s c [] idle = idle_setting s c (model.first_setting c) idle
idle_queue s c (q ∷ rest) idle = absurd cc

idle_frame : (s : ScriptValue) (c : Control) (o : Option ℕ) → frame_work c o ≡ Idle → model.rule_frame s c o ≡ None
idle_frame s c None idle = idle_queue s c c.queue idle
idle_frame s c (Some place) idle = absurd cc

idle_parked : (s : ScriptValue) (c : Control) (o : Option ℕ) → parked_work s c o ≡ Idle → model.rule_parked s c o ≡ None
idle_parked s c None idle = idle_frame s c (model.first_frame s c) idle
idle_parked s c (Some place) idle = absurd cc

idle_finish : (s : ScriptValue) (c : Control) (o : Option Removal) → finish_work s c o ≡ Idle → model.rule_finish s c o ≡ None
idle_finish s c None idle = idle_parked s c (model.first_free s c) idle
idle_finish s c (Some r) idle = absurd cc

pub idle_waits : (s : ScriptValue) (c : Control) → work_of s c ≡ Idle → device_turn s c ≡ None
unfolding work_of device_turn
idle_waits s c idle = idle_finish s c (find is_ready c.removals) idle

-- where a removal is to be finished, one waits for nobody
pub finish_ready : (ready : Bool) (free frame : Option ℕ) (queue : List Queued) (setting : Option ℕ) → work_by_ready ready free frame queue setting ≡ Finish → ready ≡ true
finish_ready true free frame queue setting h = refl
finish_ready false None None [] None h = absurd cc
finish_ready false None None [] (Some driver) h = absurd cc
finish_ready false None None (q ∷ rest) setting h = absurd cc
finish_ready false None (Some place) queue setting h = absurd cc
finish_ready false (Some place) frame queue setting h = absurd cc
