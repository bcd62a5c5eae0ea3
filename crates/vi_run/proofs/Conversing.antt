-- A back end's turn under the control, on the shared object.
use Rattle.std.proofs.Common.{◌≡◌, ℕ, ◌<◌, Bool, true, false, cond, None, refl, sym, ap, ap₂, subst, ◌∙◌}
use Rattle.std.specs.Prelude.{nat_lt}
use Rattle.std.proofs.lemmas.Bool.{lt-ltb}
use Rattle.vi_lines.specs.declared.line.Who.TheVariants as who
use Rattle.vi_lines.specs.Value.{ScriptValue}
use Rattle.vi_model.specs.Control.{Control, link_of, with_link}
use Rattle.vi_model.specs.Places.{place_count, place_of}
use Rattle.vi_model.specs.Backs.{Seat, Exchange, Wish, Accesses, Asks, Receives, Rests, wish, ask, receive}
use Rattle.vi_model.specs.Actors.{Actor, seat_in, back_actor}
use Rattle.vi_model.specs.Worlds.{World, seat_of}
use Rattle.vi_model.specs.Turns as model
use Rattle.vi_model.specs.Turns.{ControlTurn, exchanged, wished, wished_page, control_turn, accessed_page}
use Rattle.vi_backend.specs.Own.{Own, IsOwn, IsBackOf}
use Rattle.vi_control.specs.Plan.{Plan, plan_of}
use Rattle.vi_control.specs.Value.{ControlValue}
use Rattle.vi_core.specs.declared.turned.Turned.{Turned}
use Rattle.vi_core.specs.BackTurns.{HasConverseRoom, IsBacksTurn, Conversed, converse_of}
use Rattle.vi_core.proofs.ConverseRoom.{converse_room}
use Rattle.vi_turns.specs.Holding.{TheControl}
use Rattle.vi_turns.specs.Views.{turn_of, won_control, gave_back}
use Rattle.vi_turns.specs.Order.{IsSoundAt, IsPlaced, IsPlacedIn}
use Rattle.vi_turns.specs.Passes.{PassValue, IsDueControl}
use Rattle.vi_turns.specs.declared.view.View.{View}
use Rattle.vi_run.specs.declared.ran.Ran.TheVariants as ran
use Rattle.vi_run.specs.Actors.{IsIdle, IsBack}
use Rattle.vi_run.specs.Taking.{wished_of}
use Rattle.vi_run.specs.Turns.{back_with, HasTurned}
use Rattle.vi_run.proofs.Won.{turn_is, wished_is, quiet_due, quiet_turned}
use Rattle.vi_run.proofs.Stamped.{quiet_room}

-- ---- the back end of a pass

-- a sound world has its seat
pub seat_here : (p : PassValue) (place : ℕ) (b : Own) (w : World) → IsPlacedIn w p.view → IsIdle (back_with p b) → IsBack (back_with p b) place b → b.seat ≡ seat_of w place
seat_here p place b w placed idle plays =
    let here : back_actor (seat_of w (place_of p.view.script b.id)) ≡ back_actor b.seat = placed.actor (who.Back b.id) idle.acts ∙ plays.actor in
    let at : back_actor (seat_of w place) ≡ back_actor (seat_of w (place_of p.view.script b.id)) = ap (λ k. back_actor (seat_of w k)) (sym plays.place_is) in
    sym (ap seat_in (at ∙ here))

-- the page that its turn accesses is the one that its wish accesses
accessed_is : (s : ScriptValue) (id place : ℕ) (z : Seat) → place_of s id ≡ place → place < place_count s → accessed_page s (who.Back id) (back_actor z) ≡ wished_page (wish s place z)
unfolding accessed_page
accessed_is s id place z e lt =
    ap (λ k. cond (nat_lt k (place_count s)) (wished_page (wish s k z)) None) e
    ∙ ap (λ b. cond b (wished_page (wish s place z)) None) (lt-ltb place (place_count s) lt)

pub back_wishes : (p : PassValue) (place : ℕ) (b : Own) → IsIdle (back_with p b) → IsBack (back_with p b) place b → wished_of p.view ≡ wished_page (wish p.view.script place b.seat)
back_wishes p place b idle plays =
    wished_is p.view (who.Back b.id) idle.acts
    ∙ ap (accessed_page p.view.script (who.Back b.id)) plays.actor
    ∙ accessed_is p.view.script b.id place b.seat plays.place_is plays.below

-- a back end that differs in its seat alone is of the same place
pub same_back : (s : ScriptValue) (place : ℕ) (b c : Own) (z : Seat) → IsBackOf s place b → c ≡ record b { seat = z } → IsBackOf s place c
same_back s place b c z k e = subst (IsBackOf s place) (sym e) (record { endpoint = k.endpoint; own_lines = k.own_lines; own_awaited = k.own_awaited; own_capacity = k.own_capacity })

-- ---- its turn under the control

-- what an exchange leaves, where it moved the back end and where it didn't
abbrev left : Bool → ℕ → model.Turned → Control → Actor → Exchange → ControlTurn
left moved place idle c a m = cond moved (record { control = with_link c place m.link; actor = back_actor m.seat; entry = None; turned = model.Moved }) (model.stays idle c a)

-- it makes no entry, and leaves a back end
exchanged_quiet : (place : ℕ) (idle : model.Turned) (c : Control) (a : Actor) (m : Exchange) → (exchanged place idle c a m).entry ≡ None
exchanged_quiet place idle c a m = go m.moved
  where
    go : (b : Bool) → (left b place idle c a m).entry ≡ None
    go true = refl
    go false = refl

wished_quiet : (s : ScriptValue) (place : ℕ) (c : Control) (a : Actor) (h : Wish) → (wished s place c a h).entry ≡ None
wished_quiet s place c a (Accesses l x) = refl
wished_quiet s place c a (Asks m) = exchanged_quiet place model.Waiting c a _
wished_quiet s place c a (Receives tests) = exchanged_quiet place model.Waiting c a _
wished_quiet s place c a Rests = exchanged_quiet place model.Rest c a _

-- the actor is that of its seat
abbrev IsSeated : Actor → Type 0
IsSeated a = a ≡ back_actor (seat_in a)

exchanged_back : (place : ℕ) (idle : model.Turned) (c : Control) (z : Seat) (m : Exchange) → IsSeated (exchanged place idle c (back_actor z) m).actor
exchanged_back place idle c z m = go m.moved
  where
    go : (b : Bool) → IsSeated (left b place idle c (back_actor z) m).actor
    go true = refl
    go false = refl

wished_back : (s : ScriptValue) (place : ℕ) (c : Control) (z : Seat) (h : Wish) → IsSeated (wished s place c (back_actor z) h).actor
wished_back s place c z (Accesses l x) = refl
wished_back s place c z (Asks m) = exchanged_back place model.Waiting c z (ask (link_of c place) z m)
wished_back s place c z (Receives tests) = exchanged_back place model.Waiting c z (receive s c place tests (link_of c place) z)
wished_back s place c z Rests = exchanged_back place model.Rest c z (receive s c place false (link_of c place) z)

-- the turn of the model is that of the back end's own lines
control_is : (s : ScriptValue) (id place : ℕ) (z : Seat) (c : Control) → place_of s id ≡ place → place < place_count s → control_turn s (who.Back id) c (back_actor z) ≡ converse_of s c place z
unfolding control_turn
control_is s id place z c e lt =
    ap (λ k. let t : ControlTurn = cond (nat_lt k (place_count s)) (converse_of s c k z) (model.stays model.Waiting c (back_actor z)) in t) e
    ∙ ap (λ b. let t : ControlTurn = cond b (converse_of s c place z) (model.stays model.Waiting c (back_actor z)) in t) (lt-ltb place (place_count s) lt)

-- what the turn needs
pub converse_needs : (p : PassValue) (place : ℕ) (b : Own) (c : ControlValue) → IsIdle (back_with p b) → IsBack (back_with p b) place b → IsSoundAt p.view (TheControl c.state)
    → c.plan ≡ plan_of p.view.script → HasConverseRoom c.plan c.state place b
converse_needs p place b c idle plays at plan =
    let s : ScriptValue = p.view.script in
    subst (λ (k : Plan). HasConverseRoom k c.state place b) (sym plan)
    (subst (λ (st : Control). HasConverseRoom (plan_of s) st place b) at.has
    (converse_room s at.world place b at.placed.playable at.placed.sound plays.below plays.back plays.own (seat_here p place b at.world at.placed idle plays)))

-- what is known of its turn under the control c
pub record Converses (p : PassValue) (place : ℕ) (b : Own) (c after : ControlValue) (then : Own) (t : Turned) : Type 0 where
  pub idle : IsIdle (back_with p b)
  pub plays : IsBack (back_with p b) place b
  pub plan : c.plan ≡ plan_of p.view.script
  pub turn : IsBacksTurn place c after b then t
  pub own : IsOwn then
  pub plan_stays : after.plan ≡ c.plan

module _ (p : PassValue) (place : ℕ) (b : Own) (c after : ControlValue) (then : Own) (t : Turned) (k : Converses p place b c after then t) where
  converse_is : turn_of p.view c.state ≡ converse_of p.view.script c.state place b.seat
  converse_is =
      turn_is p.view (who.Back b.id) c.state k.idle.acts
      ∙ ap (control_turn p.view.script (who.Back b.id) c.state) k.plays.actor
      ∙ control_is p.view.script b.id place b.seat c.state k.plays.place_is k.plays.below

  conversed : Conversed (converse_of p.view.script c.state place b.seat) c after b then t
  conversed = k.turn p.view.script (sym k.plan) k.plays.back

  quiet : (turn_of p.view c.state).entry ≡ None
  quiet = ap (λ (x : ControlTurn). x.entry) converse_is ∙ wished_quiet _ _ _ _ _

  pub converse_due : (u : View) → u ≡ won_control p.view c.state → IsDueControl u after
  converse_due u is =
      quiet_due p.view u c after is (ap (λ (x : ControlValue). x.state) conversed.control ∙ ap (λ (x : ControlTurn). x.control) (sym converse_is)) (k.plan_stays ∙ k.plan) quiet

  pub converse_turned : (q : PassValue) → wished_of p.view ≡ None → q.view ≡ gave_back (won_control p.view c.state) → IsPlaced q.view → HasTurned (who.Back b.id) p q (ran.Turned t)
  converse_turned q wish is placed =
      quiet_turned p q (who.Back b.id) c.state t k.idle wish (conversed.turned_is ∙ ap (λ (x : ControlTurn). x.turned) (sym converse_is)) quiet is placed

  pub converse_plays : (q : PassValue) → q.view ≡ gave_back (won_control p.view c.state) → q.spare_entries ≡ p.spare_entries → q.spare_bytes ≡ p.spare_bytes → IsBack (back_with q then) place then
  converse_plays q is entries bytes =
      let script : q.view.script ≡ p.view.script = ap (λ (z : View). z.script) is in
      let id : then.id ≡ b.id = ap (λ (x : Own). x.id) conversed.back in
      let seat : then.seat ≡ seat_in (converse_of p.view.script c.state place b.seat).actor = ap (λ (x : Own). x.seat) conversed.back in
      record {
        who_is = refl;
        place_is = ap₂ place_of script id ∙ k.plays.place_is;
        below = subst (λ (s : ScriptValue). place < place_count s) (sym script) k.plays.below;
        back = subst (λ (s : ScriptValue). IsBackOf s place then) (sym script) (same_back p.view.script place b then _ k.plays.back conversed.back);
        own = k.own;
        actor = ap (λ (z : View). z.actor) is ∙ ap (λ (x : ControlTurn). x.actor) converse_is
            ∙ wished_back p.view.script place c.state b.seat (wish p.view.script place b.seat) ∙ ap back_actor (sym seat);
        room = quiet_room p q (who.Back b.id) (who.Back then.id) c.state is entries bytes k.plays.room;
      }

-- ---- with the control lent out of its block

pub converse_needs_lent : (p : PassValue) (place : ℕ) (b : Own) (c lent : ControlValue) → lent ≡ c → IsIdle (back_with p b) → IsBack (back_with p b) place b
    → IsSoundAt p.view (TheControl c.state) → c.plan ≡ plan_of p.view.script → HasConverseRoom lent.plan lent.state place b
converse_needs_lent p place b c lent is idle plays at plan = subst (λ (x : ControlValue). HasConverseRoom x.plan x.state place b) (sym is) (converse_needs p place b c idle plays at plan)

pub converses_lent : (p : PassValue) (place : ℕ) (b : Own) (c lent after : ControlValue) (then : Own) (t : Turned) → lent ≡ c → IsIdle (back_with p b) → IsBack (back_with p b) place b
    → c.plan ≡ plan_of p.view.script → IsBacksTurn place lent after b then t → IsOwn then → after.plan ≡ lent.plan → Converses p place b c after then t
converses_lent p place b c lent after then t is idle plays plan turn own stays =
    record { idle = idle; plays = plays; plan = plan; turn = subst (λ (x : ControlValue). IsBacksTurn place x after b then t) is turn; own = own; plan_stays = stays ∙ ap (λ (x : ControlValue). x.plan) is }
