-- A driver's turn on the shared object.
use Rattle.std.proofs.Common.{◌≡◌, ℕ, ◌<◌, cond, Option, Some, None, refl, sym, ap, subst, ◌∙◌}
use Rattle.std.proofs.lemmas.Bool.{lt-ltb}
use Rattle.vi_lines.specs.declared.line.Who.TheVariants as who
use Rattle.vi_lines.specs.Value.{ScriptValue}
use Rattle.vi_model.specs.Control.{Control, driver_count}
use Rattle.vi_model.specs.Drivers.{Stand, Driven, driver_turn}
use Rattle.vi_model.specs.Actors.{Actor, stand_in, driver_actor}
use Rattle.vi_model.specs.Worlds.{World, stand_of}
use Rattle.vi_model.specs.Turns as model
use Rattle.vi_model.specs.Turns.{ControlTurn, driver_idle, driven, control_turn, accessed_page}
use Rattle.vi_driver.specs.Drivers.{OwnDriver, own_driver}
use Rattle.vi_control.specs.Plan.{Plan, plan_of}
use Rattle.vi_control.specs.Value.{ControlValue}
use Rattle.vi_core.specs.declared.turned.Turned.{Turned}
use Rattle.vi_core.specs.DriverTurns.{HasDriveRoom, IsDriversTurn, Drove, drive_of}
use Rattle.vi_core.proofs.DriveRoom.{drive_room}
use Rattle.vi_turns.specs.Holding.{TheControl}
use Rattle.vi_turns.specs.Views.{turn_of, won_control, gave_back}
use Rattle.vi_turns.specs.Order.{IsSoundAt, IsPlaced}
use Rattle.vi_turns.specs.Passes.{PassValue, IsDueControl}
use Rattle.vi_turns.specs.declared.view.View.{View}
use Rattle.vi_run.specs.declared.ran.Ran.TheVariants as ran
use Rattle.vi_run.specs.Actors.{IsIdle, IsDriver}
use Rattle.vi_run.specs.Taking.{wished_of}
use Rattle.vi_run.specs.Turns.{driver_with, HasTurned}
use Rattle.vi_run.proofs.Won.{turn_is, wished_is, quiet_due, quiet_turned}

-- a driver's turn is no access
accesses_none : (s : ScriptValue) (number : ℕ) (a : Actor) → accessed_page s (who.Driver number) a ≡ None
unfolding accessed_page
accesses_none s number a = refl

pub drives_no_page : (p : PassValue) (d : OwnDriver) → IsIdle (driver_with p d) → wished_of p.view ≡ None
drives_no_page p d idle = wished_is p.view (who.Driver d.number) idle.acts ∙ accesses_none p.view.script d.number p.view.actor

-- it makes no entry, and leaves a driver
no_entry : (idle : model.Turned) (c : Control) (a : Actor) (o : Option Driven) → (driven idle c a o).entry ≡ None
no_entry idle c a None = refl
no_entry idle c a (Some o) = refl

leaves_driver : (idle : model.Turned) (c : Control) (z : Stand) (o : Option Driven)
    → (driven idle c (driver_actor z) o).actor ≡ driver_actor (stand_in (driven idle c (driver_actor z) o).actor.progress)
leaves_driver idle c z None = refl
leaves_driver idle c z (Some o) = refl

-- the turn of the model is that of the driver's own lines
control_is : (s : ScriptValue) (n : ℕ) (z : Stand) (c : Control) → n < driver_count
    → control_turn s (who.Driver n) c (driver_actor z) ≡ driven (driver_idle s n z) c (driver_actor z) (driver_turn s c n z)
unfolding control_turn
control_is s n z c lt =
    ap (λ b. let t : ControlTurn = cond b (driven (driver_idle s n z) c (driver_actor z) (driver_turn s c n z)) (model.stays model.Rest c (driver_actor z)) in t) (lt-ltb n driver_count lt)

drive_is : (p : PassValue) (d : OwnDriver) (c : Control) → IsIdle (driver_with p d) → IsDriver (driver_with p d) d → turn_of p.view c ≡ drive_of p.view.script c d
drive_is p d c idle plays =
    turn_is p.view (who.Driver d.number) c idle.acts
    ∙ ap (control_turn p.view.script (who.Driver d.number) c) plays.actor
    ∙ control_is p.view.script d.number d.stand c plays.number

-- what the turn needs
pub drive_needs : (p : PassValue) (d : OwnDriver) (c : ControlValue) → IsIdle (driver_with p d) → IsDriver (driver_with p d) d → IsSoundAt p.view (TheControl c.state) → c.plan ≡ plan_of p.view.script
    → HasDriveRoom c.plan c.state d
drive_needs p d c idle plays at plan =
    let s : ScriptValue = p.view.script in
    let w : World = at.world in
    let here : driver_actor (stand_of w d.number) ≡ driver_actor d.stand = at.placed.actor (who.Driver d.number) idle.acts ∙ plays.actor in
    let own : own_driver s d.number (stand_of w d.number) ≡ d = ap (λ (x : Actor). own_driver s d.number (stand_in x.progress)) here ∙ sym plays.own in
    subst (λ (k : Plan). HasDriveRoom k c.state d) (sym plan)
    (subst (λ (x : OwnDriver). HasDriveRoom (plan_of s) c.state x) own
    (subst (λ (st : Control). HasDriveRoom (plan_of s) st (own_driver s d.number (stand_of w d.number))) at.has
    (drive_room s w d.number at.placed.playable at.placed.sound plays.number)))

-- what is known of a driver's turn under the control c
pub record Drives (p : PassValue) (d : OwnDriver) (c after : ControlValue) (then : OwnDriver) (t : Turned) : Type 0 where
  pub idle : IsIdle (driver_with p d)
  pub plays : IsDriver (driver_with p d) d
  pub plan : c.plan ≡ plan_of p.view.script
  pub turn : IsDriversTurn c after d then t
  pub plan_stays : after.plan ≡ c.plan

drove : (p : PassValue) (d : OwnDriver) (c after : ControlValue) (then : OwnDriver) (t : Turned) → Drives p d c after then t → Drove (drive_of p.view.script c.state d) c after d then t
drove p d c after then t k = k.turn p.view.script (sym k.plan) k.plays.own

quiet : (p : PassValue) (d : OwnDriver) (c after : ControlValue) (then : OwnDriver) (t : Turned) → Drives p d c after then t → (turn_of p.view c.state).entry ≡ None
quiet p d c after then t k =
    ap (λ (x : ControlTurn). x.entry) (drive_is p d c.state k.idle k.plays) ∙ no_entry _ _ _ _

pub drive_due : (p : PassValue) (u : View) (d : OwnDriver) (c after : ControlValue) (then : OwnDriver) (t : Turned) → Drives p d c after then t → u ≡ won_control p.view c.state → IsDueControl u after
drive_due p u d c after then t k is =
    quiet_due p.view u c after is
    (ap (λ (x : ControlValue). x.state) (drove p d c after then t k).control ∙ ap (λ (x : ControlTurn). x.control) (sym (drive_is p d c.state k.idle k.plays)))
    (k.plan_stays ∙ k.plan) (quiet p d c after then t k)

pub drive_turned : (p q : PassValue) (d : OwnDriver) (c after : ControlValue) (then : OwnDriver) (t : Turned) → Drives p d c after then t → q.view ≡ gave_back (won_control p.view c.state)
    → IsPlaced q.view → HasTurned (who.Driver d.number) p q (ran.Turned t)
drive_turned p q d c after then t k is placed =
    quiet_turned p q (who.Driver d.number) c.state t k.idle (drives_no_page p d k.idle)
    ((drove p d c after then t k).turned_is ∙ ap (λ (x : ControlTurn). x.turned) (sym (drive_is p d c.state k.idle k.plays)))
    (quiet p d c after then t k) is placed

pub drive_plays : (p q : PassValue) (d : OwnDriver) (c after : ControlValue) (then : OwnDriver) (t : Turned) → Drives p d c after then t → q.view ≡ gave_back (won_control p.view c.state)
    → IsDriver (driver_with q then) then
drive_plays p q d c after then t k is =
    let s : ScriptValue = p.view.script in
    let x = (drove p d c after then t k).driver in
    let number : then.number ≡ d.number = ap (λ (y : OwnDriver). y.number) x in
    let stand : then.stand ≡ stand_in (drive_of s c.state d).actor.progress = ap (λ (y : OwnDriver). y.stand) x in
    let script : q.view.script ≡ s = ap (λ (z : View). z.script) is in
    record {
      who_is = refl;
      number = subst (λ n. n < driver_count) (sym number) k.plays.number;
      own = subst (λ (z : ScriptValue). then ≡ own_driver z then.number then.stand) (sym script)
          (subst (λ (y : OwnDriver). y ≡ own_driver s y.number y.stand) (sym x)
          (ap (λ (y : OwnDriver). own_driver_with y (stand_in (drive_of s c.state d).actor.progress)) k.plays.own));
      actor = ap (λ (z : View). z.actor) is ∙ ap (λ (y : ControlTurn). y.actor) (drive_is p d c.state k.idle k.plays) ∙ leaves_driver _ _ _ _ ∙ ap driver_actor (sym stand);
    }
  where
    own_driver_with : OwnDriver → Stand → OwnDriver
    own_driver_with y z = record y { stand = z }

-- ---- with the control lent out of its block

pub drive_needs_lent : (p : PassValue) (d : OwnDriver) (c lent : ControlValue) → lent ≡ c → IsIdle (driver_with p d) → IsDriver (driver_with p d) d → IsSoundAt p.view (TheControl c.state)
    → c.plan ≡ plan_of p.view.script → HasDriveRoom lent.plan lent.state d
drive_needs_lent p d c lent is idle plays at plan = subst (λ (x : ControlValue). HasDriveRoom x.plan x.state d) (sym is) (drive_needs p d c idle plays at plan)

pub drives_lent : (p : PassValue) (d : OwnDriver) (c lent after : ControlValue) (then : OwnDriver) (t : Turned) → lent ≡ c → IsIdle (driver_with p d) → IsDriver (driver_with p d) d
    → c.plan ≡ plan_of p.view.script → IsDriversTurn lent after d then t → after.plan ≡ lent.plan → Drives p d c after then t
drives_lent p d c lent after then t is idle plays plan turn stays =
    record { idle = idle; plays = plays; plan = plan; turn = subst (λ (x : ControlValue). IsDriversTurn x after d then t) is turn; plan_stays = stays ∙ ap (λ (x : ControlValue). x.plan) is }
