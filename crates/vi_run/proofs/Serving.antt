-- The device's turn on the shared object.
use Rattle.std.proofs.Common.{◌≡◌, ℕ, ◌++◌, List, length, Option, Some, None, refl, sym, ap, ap₂, subst, ◌∙◌}
use Rattle.std.specs.Option.{option_map}
use Rattle.vi_history.specs.declared.entry.Entry.{Entry}
use Rattle.vi_history.specs.declared.entry.Mark.{Mark}
use Rattle.vi_lines.specs.declared.line.Who.TheVariants as who
use Rattle.vi_lines.specs.Value.{ScriptValue}
use Rattle.vi_model.specs.Control.{Control}
use Rattle.vi_model.specs.Places.{place_count}
use Rattle.vi_model.specs.Device.{device_turn}
use Rattle.vi_model.specs.Actors.{Actor, other_actor}
use Rattle.vi_model.specs.Worlds.{World, actor_of}
use Rattle.vi_model.specs.Turns.{ControlTurn, served, control_turn, accessed_page, made_entries, left_by}
use Rattle.vi_sound.proofs.Laws.{control_keeps_sound}
use Rattle.vi_control.specs.Plan.{Plan, plan_of}
use Rattle.vi_control.specs.Value.{ControlValue, entry_with}
use Rattle.vi_control.specs.Rooms.{HasTurnRoom, HasRoom}
use Rattle.vi_control.proofs.Sound.{sound_room}
use Rattle.vi_core.specs.declared.serving.Served.{Served}
use Rattle.vi_core.specs.DeviceTurns.{IsDevicesTurn, HasServed}
use Rattle.vi_turns.specs.Holding.{TheControl}
use Rattle.vi_turns.specs.Views.{turn_of, won_control, gave_back}
use Rattle.vi_turns.specs.Order.{IsSoundAt, IsPlaced}
use Rattle.vi_turns.specs.Passes.{PassValue, IsSamePass, IsDue, IsDueControl}
use Rattle.vi_turns.specs.declared.view.View.{View}
use Rattle.vi_run.specs.declared.ran.Ran.TheVariants as ran
use Rattle.vi_run.specs.Actors.{IsIdle, IsDevice}
use Rattle.vi_run.specs.Taking.{wished_of}
use Rattle.vi_run.specs.Turns.{device_with, HasTurned}
use Rattle.vi_run.proofs.LogRoom.{FindsRoom, entry_fits}
use Rattle.vi_run.proofs.Won.{turn_is, wished_is, entry_due}
use Rattle.vi_run.proofs.Stamped.{Makes, made_due, made_turned, made_room}

-- its turn is no access
accesses_none : (s : ScriptValue) (a : Actor) → accessed_page s who.Device a ≡ None
unfolding accessed_page
accesses_none s a = refl

pub serves_no_page : (p : PassValue) → IsIdle (device_with p) → wished_of p.view ≡ None
serves_no_page p idle = wished_is p.view who.Device idle.acts ∙ accesses_none p.view.script p.view.actor

-- the turn needs room that a sound world has
places_are : (s : ScriptValue) → length (plan_of s).ids ≡ place_count s
unfolding plan_of
places_are s = refl

pub serve_needs : (p : PassValue) (c : ControlValue) → IsSoundAt p.view (TheControl c.state) → c.plan ≡ plan_of p.view.script → HasRoom c
serve_needs p c at plan =
    subst (λ (n : ℕ). HasTurnRoom n c.state) (sym (ap (λ (k : Plan). length k.ids) plan ∙ places_are p.view.script))
    (subst (HasTurnRoom (place_count p.view.script)) at.has (sound_room p.view.script at.world at.placed.playable at.placed.sound))

control_is : (s : ScriptValue) (c : Control) → control_turn s who.Device c other_actor ≡ served c other_actor (device_turn s c)
unfolding control_turn
control_is s c = refl

-- what is known of its turn under the control c
pub record Serves (p : PassValue) (c after : ControlValue) (done : Served) : Type 0 where
  pub idle : IsIdle (device_with p)
  pub plays : IsDevice (device_with p)
  pub plan : c.plan ≡ plan_of p.view.script
  pub at : IsSoundAt p.view (TheControl c.state)
  pub turn : IsDevicesTurn c after done
  pub plan_stays : after.plan ≡ c.plan

module _ (p : PassValue) (c after : ControlValue) (done : Served) (k : Serves p c after done) where
  serve_is : turn_of p.view c.state ≡ served c.state other_actor (device_turn p.view.script c.state)
  serve_is =
      let here : other_actor ≡ p.view.actor = k.idle.placed.placed.actor who.Device k.idle.acts in
      turn_is p.view who.Device c.state k.idle.acts
      ∙ ap (control_turn p.view.script who.Device c.state) (sym here)
      ∙ control_is p.view.script c.state

  has_served : HasServed (served c.state other_actor (device_turn p.view.script c.state)) c after done
  has_served = k.turn p.view.script (sym k.plan)

  -- the entry that the turn makes is that of the mark, if there is one
  pub served_entry : (turn_of p.view c.state).entry ≡ option_map (entry_with after.answered) done.mark
  served_entry = ap (λ (x : ControlTurn). x.entry) serve_is ∙ sym has_served.entry

  pub served_none : done.mark ≡ None → (turn_of p.view c.state).entry ≡ None
  served_none is = served_entry ∙ ap (option_map (entry_with after.answered)) is

  pub served_some : (mark : Mark) (bytes : List ℕ) → done.mark ≡ Some mark → bytes ≡ after.answered → (turn_of p.view c.state).entry ≡ Some (entry_with bytes mark)
  served_some mark bytes is same = served_entry ∙ ap (option_map (entry_with after.answered)) is ∙ ap (λ (b : List ℕ). Some (entry_with b mark)) (sym same)

  -- the world's turn is the same
  world_turn : control_turn p.view.script who.Device k.at.world.control (actor_of p.view.script k.at.world who.Device) ≡ turn_of p.view c.state
  world_turn = ap₂ (control_turn p.view.script who.Device) k.at.has (k.at.placed.actor who.Device k.idle.acts) ∙ sym (turn_is p.view who.Device c.state k.idle.acts)

  -- its entry finds room
  pub served_room : (e : Entry) → (turn_of p.view c.state).entry ≡ Some e → FindsRoom p e
  served_room e makes =
      let s : ScriptValue = p.view.script in
      let w : World = k.at.world in
      let y : World = left_by s w who.Device (control_turn s who.Device w.control (actor_of s w who.Device)) in
      entry_fits (device_with p) w y e k.at.placed (control_keeps_sound s w who.Device k.at.placed.playable k.at.placed.sound)
      (ap (λ (o : Option Entry). w.history ++ made_entries o) (ap (λ (x : ControlTurn). x.entry) world_turn ∙ makes)) k.plays.room

  pub served_due : (u : View) (e : Entry) → u ≡ won_control p.view c.state → (turn_of p.view c.state).entry ≡ Some e → IsDue u e
  served_due u e is makes = entry_due p.view u c.state e is makes

  pub serve_due : (m : PassValue) → Makes p m c.state → IsDueControl m.view after
  serve_due m made = made_due p m c after made (has_served.control ∙ ap (λ (x : ControlTurn). x.control) (sym serve_is)) (k.plan_stays ∙ k.plan)

  pub serve_turned : (m q : PassValue) → Makes p m c.state → q.view ≡ gave_back m.view → IsPlaced q.view → HasTurned who.Device p q (ran.Turned done.turned)
  serve_turned m q made is placed =
      made_turned p m q who.Device c.state done.turned k.idle (serves_no_page p k.idle) (has_served.turned_is ∙ ap (λ (x : ControlTurn). x.turned) (sym serve_is)) made is placed

  pub serve_plays : (m q : PassValue) → Makes p m c.state → IsSamePass m q → q.view ≡ gave_back m.view → IsDevice (device_with q)
  serve_plays m q made same is = record { who_is = refl; room = made_room p m q who.Device c.state made same is k.plays.room }

-- ---- with the control lent out of its block

pub serve_needs_lent : (p : PassValue) (c lent : ControlValue) → lent ≡ c → IsSoundAt p.view (TheControl c.state) → c.plan ≡ plan_of p.view.script → HasRoom lent
serve_needs_lent p c lent is at plan = subst HasRoom (sym is) (serve_needs p c at plan)

pub serves_lent : (p : PassValue) (c lent after : ControlValue) (done : Served) → lent ≡ c → IsIdle (device_with p) → IsDevice (device_with p) → IsSoundAt p.view (TheControl c.state)
    → c.plan ≡ plan_of p.view.script → IsDevicesTurn lent after done → after.plan ≡ lent.plan → Serves p c after done
serves_lent p c lent after done is idle plays at plan turn stays =
    record { idle = idle; plays = plays; plan = plan; at = at; turn = subst (λ (x : ControlValue). IsDevicesTurn x after done) is turn; plan_stays = stays ∙ ap (λ (x : ControlValue). x.plan) is }
