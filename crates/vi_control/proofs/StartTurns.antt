-- The device's turns that start and finish calls.
use Rattle.std.proofs.Common.{◌≡◌, ℕ, zero, suc, Bool, true, false, List, [], ◌∷◌, ◌++◌, length, get_or, map, Option, Some, None, refl, ap, sym, ◌∙◌}
use Rattle.std.specs.Prelude.{if◌then◌else◌}
use Rattle.std.proofs.lemmas.List.{map-append}
use Rattle.std.specs.List.{range_with_len}
use Rattle.std.specs.Option.{option_map}
use Rattle.vi_history.specs.declared.entry.Mark.{Mark}
use Rattle.vi_lines.specs.Value.{ScriptValue}
use Rattle.vi_device.specs.Values.{DeviceValue}
use Rattle.vi_grants.specs.Rows.{GrantRow, row_at}
use Rattle.vi_model.specs.declared.task.Task.{Task}
use Rattle.vi_model.specs.Tasks.{task_answer, task_commit}
use Rattle.vi_model.specs.Control.{Control, Started}
use Rattle.vi_model.specs.Removals.{Removal, must_wait, first_ready, without_first}
use Rattle.vi_model.specs.Places.{ids_of, place_count, id_at}
use Rattle.vi_model.specs.Starts.{awaited_by, is_in_way, driver_entry, answered, begun, finish, start, tell}
use Rattle.vi_model.specs.Device.{first_free, first_frame, first_setting, rule_finish, rule_parked, rule_frame, rule_queue, rule_setting, start_setting, device_turn}
use Rattle.vi_shoot.specs.declared.ops.Token.{Token}
use Rattle.vi_shoot.specs.declared.ops.Token.TheVariants as token
use Rattle.vi_calls.specs.Value.{CallsValue}
use Rattle.vi_lanes.specs.Value.{LanesValue}
use Rattle.vi_removals.specs.declared.removals.Ready.{Ready}
use Rattle.vi_removals.specs.Value as removals
use Rattle.vi_removals.specs.Value.{Opened, RemovalsValue, removals_of, ready_of}
use Rattle.vi_control.specs.declared.control.Control.TheInside.{Inside}
use Rattle.vi_control.specs.Inner.{seen, grants_in}
use Rattle.vi_control.specs.Plan.{plan_of}
use Rattle.vi_control.specs.Value.{made_by, entry_with}
use Rattle.vi_control.specs.Work.{finish_work, parked_work, frame_work, work_of, Starts}
use Rattle.vi_control.specs.Awaits.{awaited_in, stands_in_way, must_begin}
use Rattle.vi_control.specs.Tokens.{settled}
use Rattle.vi_control.specs.Started.{started_of, opened_for, IsNextRequest, IsNextSetting, IsNextBy, IsNext}
use Rattle.vi_control.proofs.Ties.{the-first, ports-token, queue-token}

-- a turn that is to start something takes it from the queue or from a driver's row
module _ (s : ScriptValue) (c : Control) where
  past-frame : (o : Option ℕ) → Starts (frame_work c o) → rule_frame s c o ≡ rule_queue s c c.queue
  past-frame None starts = refl
  past-frame (Some place) starts = absurd starts

  past-parked : (o : Option ℕ) → Starts (parked_work s c o) → rule_parked s c o ≡ rule_queue s c c.queue
  past-parked None starts = past-frame (first_frame s c) starts
  past-parked (Some place) starts = absurd starts

  past-finish : (o : Option Removal) → Starts (finish_work s c o) → rule_finish s c o ≡ rule_queue s c c.queue
  past-finish None starts = past-parked (first_free s c) starts
  past-finish (Some r) starts = absurd starts

  turn-queue : Starts (work_of s c) → device_turn s c ≡ rule_queue s c c.queue
  unfolding work_of device_turn
  turn-queue starts = past-finish (first_ready c.removals) starts

  -- where there is nothing to start, it isn't to start anything
  none-frame : (o : Option ℕ) → c.queue ≡ [] → first_setting c ≡ None → Starts (frame_work c o) → ⊥
  none-frame None queue none starts = rw (queue, none) at starts
  none-frame (Some place) queue none starts = absurd starts

  none-parked : (o : Option ℕ) → c.queue ≡ [] → first_setting c ≡ None → Starts (parked_work s c o) → ⊥
  none-parked None queue none starts = none-frame (first_frame s c) queue none starts
  none-parked (Some place) queue none starts = absurd starts

  none-finish : (o : Option Removal) → c.queue ≡ [] → first_setting c ≡ None → Starts (finish_work s c o) → ⊥
  none-finish None queue none starts = none-parked (first_free s c) queue none starts
  none-finish (Some r) queue none starts = absurd starts

  pub nothing-starts : c.queue ≡ [] → first_setting c ≡ None → Starts (work_of s c) → ⊥
  unfolding work_of
  nothing-starts queue none starts = none-finish (first_ready c.removals) queue none starts

  turn-finish : (r : Removal) → first_ready c.removals ≡ Some r → device_turn s c ≡ Some (finish c r)
  unfolding device_turn
  turn-finish r first = rw first refl

-- the next call starts
turn-by : (s : ScriptValue) (p : Inside) (new : CallsValue) (call : Started) (t : Token) → Starts (work_of s (seen p).state) → IsNextBy p.calls new call t
    → device_turn s (seen p).state ≡ Some (start s (seen (record p { calls = new })).state call)
turn-by s p new call (token.Chain head) starts next =
    let x : IsNextRequest p.calls new call head next.0 next.1 = next.2 in
    turn-queue s (seen p).state starts ∙ ap (rule_queue s (seen p).state) x.queue ∙ rw (x.left_calls, x.is) refl
turn-by s p new call (token.Setting driver line) starts next =
    let x : IsNextSetting p.calls new call driver next.1.0 = next.1.1 in
    turn-queue s (seen p).state starts ∙ ap (rule_queue s (seen p).state) x.queue ∙ ap (rule_setting s (seen p).state) x.lowest
    ∙ ap (start_setting s (seen p).state driver) x.setting ∙ rw (x.left_calls, x.is) refl

-- whom it waits for
map-each : (f g : ℕ → Bool) (xs : List ℕ) → ((k : ℕ) → f k ≡ g k) → map f xs ≡ map g xs
map-each f g [] same = refl
map-each f g (x ∷ xs) same = rw (same x, map-each f g xs same) refl

grants-at : (rows : List GrantRow) (place : ℕ) → get_or (map grants_in rows) place [] ≡ (row_at rows place).grants
grants-at [] place = refl
grants-at (r ∷ rows) zero = refl
grants-at (r ∷ rows) (suc k) = grants-at rows k

ids-known : (s : ScriptValue) (ids : List ℕ) (p : Inside) → plan_of s ≡ (seen p).plan → ids_of s ≡ p.removals.ids
unfolding plan_of
ids-known s ids p plan = ap (λ x. x.ids) plan

module _ (s : ScriptValue) (p : Inside) (plan : plan_of s ≡ (seen p).plan) (calls : CallsValue) (task : Task) where
  pub same-awaited : awaited_by s (seen (record p { calls = calls })).state task ≡ awaited_in p.device.dev p.removals.ids p.grants task
  same-awaited =
      let ids : ids_of s ≡ p.removals.ids = ids-known s p.removals.ids p plan in
      let each : (place : ℕ) → is_in_way s (seen (record p { calls = calls })).state task place ≡ stands_in_way p.device.dev p.removals.ids p.grants task place =
      λ place. ap (λ gs. must_wait p.device.dev task (id_at s place) gs) (grants-at p.grants place) ∙ ap (λ xs. must_wait p.device.dev task (get_or xs place 0) (row_at p.grants place).grants) ids in
      map-each (is_in_way s (seen (record p { calls = calls })).state task) (stands_in_way p.device.dev p.removals.ids p.grants task) (range_with_len 0 (place_count s)) each
      ∙ ap (λ xs. map (stands_in_way p.device.dev p.removals.ids p.grants task) (range_with_len 0 (length xs))) ids

module _ (s : ScriptValue) (p : Inside) (plan : plan_of s ≡ (seen p).plan) (calls : CallsValue) (call : Started) where
  -- it is answered
  start-answered : must_begin p.device.dev p.removals.ids p.grants call.task ≡ false
      → start s (seen (record p { calls = calls })).state call ≡ answered (seen (record p { calls = calls })).state call.driver call.line call.task
  unfolding start
  start-answered free = rw (same-awaited s p plan calls call.task, free) refl

  -- or its removal begins
  start-begun : (waits : List Bool) → waits ≡ awaited_in p.device.dev p.removals.ids p.grants call.task → must_begin p.device.dev p.removals.ids p.grants call.task ≡ true
      → start s (seen (record p { calls = calls })).state call
      ≡ record { control = begun (seen (record p { calls = calls })).state (record { driver = call.driver; line = call.line; task = call.task; waits = waits }); entry = None }
  unfolding start
  start-begun waits who blocked = rw (same-awaited s p plan calls call.task, blocked, who) refl

-- an answered call, as the control has it
module _ (p : Inside) (call : Ready) (device : DeviceValue) (calls : CallsValue) (config properties : List ℕ) (probed : Bool) (mark : Mark)
    (dev : device ≡ record p.device { dev = task_commit p.device.dev call.task })
    (settles : calls ≡ settled call (task_answer p.device.dev call.task) p.calls)
    (entry : entry_with (if probed then properties else []) mark ≡ driver_entry call.driver call.line (task_answer p.device.dev call.task)) where
  made-answered : answered (seen p).state call.driver call.line call.task
      ≡ made_by (seen (record p { device = device; calls = calls; config = config; properties = properties; probed = probed })) (Some mark)
  made-answered = rw (dev, settles, entry, ports-token call.token p.calls, queue-token call.token p.calls) refl

-- the turn that finishes a call
pub finish-turn : (s : ScriptValue) (p : Inside) (call : Ready) (left : RemovalsValue) (device : DeviceValue) (calls : CallsValue) (config properties : List ℕ) (probed : Bool) (mark : Mark)
    → left ≡ record p.removals { opened = removals.without_free p.removals.opened }
    → Some call ≡ option_map ready_of (removals.first_free p.removals.opened)
    → option_map (λ o. o.removal) (removals.first_free p.removals.opened) ≡ first_ready (removals_of p.removals)
    → removals_of left ≡ without_first (removals_of p.removals)
    → device ≡ record p.device { dev = task_commit p.device.dev call.task }
    → calls ≡ settled call (task_answer p.device.dev call.task) p.calls
    → entry_with (if probed then properties else []) mark ≡ driver_entry call.driver call.line (task_answer p.device.dev call.task)
    → device_turn s (seen p).state
    ≡ Some (made_by (seen (record p { device = device; calls = calls; removals = left; config = config; properties = properties; probed = probed })) (Some mark))
unfolding finish
finish-turn s p call left device calls config properties probed mark leaves is first rest dev settles entry =
    let f = the-first p.removals.opened call is in
    let ready : first_ready (removals_of p.removals) ≡ Some f.0.removal = sym first ∙ ap (option_map (λ o. o.removal)) f.1.is_first in
    turn-finish s (seen p).state f.0.removal ready
    ∙ ap Some (rw (← rest, ← ap (λ c. c.driver) f.1.is, ← ap (λ c. c.line) f.1.is, ← ap (λ c. c.task) f.1.is) (made-answered (record p { removals = left }) call device calls config properties probed mark dev settles entry))

-- the turn that answers a call at its start
pub answer-turn : (s : ScriptValue) (p : Inside) (next : CallsValue) (call : Ready) (device : DeviceValue) (calls : CallsValue) (config properties : List ℕ) (probed : Bool) (mark : Mark)
    → plan_of s ≡ (seen p).plan → Starts (work_of s (seen p).state) → IsNext p.calls next call → must_begin p.device.dev p.removals.ids p.grants call.task ≡ false
    → device ≡ record p.device { dev = task_commit p.device.dev call.task }
    → calls ≡ settled call (task_answer p.device.dev call.task) next
    → entry_with (if probed then properties else []) mark ≡ driver_entry call.driver call.line (task_answer p.device.dev call.task)
    → device_turn s (seen p).state
    ≡ Some (made_by (seen (record p { device = device; calls = calls; config = config; properties = properties; probed = probed })) (Some mark))
answer-turn s p next call device calls config properties probed mark plan starts is free dev settles entry =
    turn-by s p next (started_of call) call.token starts is
    ∙ ap Some (start-answered s p plan next (started_of call) free ∙ made-answered (record p { calls = next }) call device calls config properties probed mark dev settles entry)

-- the turn that begins a removal
pub begin-turn : (s : ScriptValue) (p : Inside) (next : CallsValue) (call : Ready) (waits : List Bool) (left : RemovalsValue) (lanes : LanesValue)
    → plan_of s ≡ (seen p).plan → Starts (work_of s (seen p).state) → IsNext p.calls next call → must_begin p.device.dev p.removals.ids p.grants call.task ≡ true
    → waits ≡ awaited_in p.device.dev p.removals.ids p.grants call.task
    → left ≡ record p.removals { opened = p.removals.opened ++ opened_for call waits ∷ [] }
    → lanes ≡ record p.lanes { mail = tell (opened_for call waits).removal p.lanes.mail }
    → device_turn s (seen p).state ≡ Some (made_by (seen (record p { calls = next; removals = left; lanes = lanes })) None)
begin-turn s p next call waits left lanes plan starts is blocked who begins told =
    turn-by s p next (started_of call) call.token starts is
    ∙ ap Some (start-begun s p plan next (started_of call) waits who blocked ∙ rw (begins, told, map-append (λ (o : Opened). o.removal) p.removals.opened (opened_for call waits ∷ [])) refl)
