-- The event reader's turn on the shared object.
use Rattle.std.proofs.Common.{◌≡◌, Bool, true, false, List, [], ◌∷◌, None, refl, sym, ap, subst, ◌∙◌}
use Rattle.vi_history.specs.declared.outcome.Shown.{Shown}
use Rattle.vi_lines.specs.declared.line.Who.TheVariants as who
use Rattle.vi_lines.specs.Value.{ScriptValue}
use Rattle.vi_model.specs.Control.{Control}
use Rattle.vi_model.specs.Actors.{Actor, other_actor}
use Rattle.vi_model.specs.Turns.{ControlTurn, event_read, control_turn, accessed_page}
use Rattle.vi_control.specs.Plan.{plan_of}
use Rattle.vi_control.specs.Value.{ControlValue}
use Rattle.vi_core.specs.declared.turned.Turned.{Turned}
use Rattle.vi_core.specs.DeviceTurns.{HasRead, read_of}
use Rattle.vi_turns.specs.Views.{turn_of, won_control, gave_back}
use Rattle.vi_turns.specs.Order.{IsPlaced}
use Rattle.vi_turns.specs.Passes.{PassValue, IsDueControl}
use Rattle.vi_turns.specs.declared.view.View.{View}
use Rattle.vi_run.specs.declared.ran.Ran.TheVariants as ran
use Rattle.vi_run.specs.Actors.{IsIdle, IsReader}
use Rattle.vi_run.specs.Taking.{wished_of}
use Rattle.vi_run.specs.Turns.{reader_with, HasTurned}
use Rattle.vi_run.proofs.Won.{turn_is, wished_is, quiet_due, quiet_turned}

-- its turn is no access
accesses_none : (s : ScriptValue) (a : Actor) → accessed_page s who.Events a ≡ None
unfolding accessed_page
accesses_none s a = refl

pub reads_no_page : (p : PassValue) → IsIdle (reader_with p) → wished_of p.view ≡ None
reads_no_page p idle = wished_is p.view who.Events idle.acts ∙ accesses_none p.view.script p.view.actor

-- it makes no entry
reads_quietly : (events : Bool) (c : Control) → (read_of events c).entry ≡ None
reads_quietly true c = go c.events.waiting
  where
    go : (xs : List Shown) → (event_read c other_actor xs).entry ≡ None
    go [] = refl
    go (x ∷ xs) = refl
reads_quietly false c = refl

control_is : (s : ScriptValue) (c : Control) → control_turn s who.Events c other_actor ≡ read_of s.setup.events c
unfolding control_turn
control_is s c = refl

-- what is known of its turn under the control c
pub record Reads (p : PassValue) (events : Bool) (c after : ControlValue) (t : Turned) : Type 0 where
  pub idle : IsIdle (reader_with p)
  pub plays : IsReader (reader_with p) events
  pub plan : c.plan ≡ plan_of p.view.script
  pub turn : HasRead (read_of events c.state) c after t

read_is : (p : PassValue) (events : Bool) (c after : ControlValue) (t : Turned) → Reads p events c after t → turn_of p.view c.state ≡ read_of events c.state
read_is p events c after t k =
    let here : other_actor ≡ p.view.actor = k.idle.placed.placed.actor who.Events k.idle.acts in
    turn_is p.view who.Events c.state k.idle.acts
    ∙ ap (control_turn p.view.script who.Events c.state) (sym here)
    ∙ control_is p.view.script c.state
    ∙ ap (λ b. read_of b c.state) (sym k.plays.events_is)

quiet : (p : PassValue) (events : Bool) (c after : ControlValue) (t : Turned) → Reads p events c after t → (turn_of p.view c.state).entry ≡ None
quiet p events c after t k = ap (λ (x : ControlTurn). x.entry) (read_is p events c after t k) ∙ reads_quietly events c.state

pub read_due : (p : PassValue) (u : View) (events : Bool) (c after : ControlValue) (t : Turned) → Reads p events c after t → u ≡ won_control p.view c.state → IsDueControl u after
read_due p u events c after t k is =
    quiet_due p.view u c after is
    (ap (λ (x : ControlValue). x.state) k.turn.control ∙ ap (λ (x : ControlTurn). x.control) (sym (read_is p events c after t k)))
    (ap (λ (x : ControlValue). x.plan) k.turn.control ∙ k.plan) (quiet p events c after t k)

pub read_turned : (p q : PassValue) (events : Bool) (c after : ControlValue) (t : Turned) → Reads p events c after t → q.view ≡ gave_back (won_control p.view c.state) → IsPlaced q.view
    → HasTurned who.Events p q (ran.Turned t)
read_turned p q events c after t k is placed =
    quiet_turned p q who.Events c.state t k.idle (reads_no_page p k.idle) (k.turn.turned_is ∙ ap (λ (x : ControlTurn). x.turned) (sym (read_is p events c after t k)))
    (quiet p events c after t k) is placed

-- with the control lent out of its block
pub reads_lent : (p : PassValue) (events : Bool) (c lent after : ControlValue) (t : Turned) → lent ≡ c → IsIdle (reader_with p) → IsReader (reader_with p) events
    → c.plan ≡ plan_of p.view.script → HasRead (read_of events lent.state) lent after t → Reads p events c after t
reads_lent p events c lent after t is idle plays plan turn =
    record { idle = idle; plays = plays; plan = plan; turn = subst (λ (x : ControlValue). HasRead (read_of events x.state) x after t) is turn }
