-- The device's turn and the event reader's over the control.
use Rattle.std.specs.Prelude.{◌≡◌, Bool, if◌then◌else◌}
use Rattle.std.specs.Option.{option_map}
use Rattle.vi_lines.specs.Value.{ScriptValue}
use Rattle.vi_model.specs.Control.{Control}
use Rattle.vi_model.specs.Device.{device_turn}
use Rattle.vi_model.specs.Actors.{other_actor}
use Rattle.vi_model.specs.Turns as model
use Rattle.vi_model.specs.Turns.{ControlTurn, served, event_read, stays}
use Rattle.vi_control.specs.Plan.{plan_of}
use Rattle.vi_control.specs.Value.{ControlValue, with_state, entry_with}
use Rattle.vi_core.specs.declared.turned.Turned.{Turned}
use Rattle.vi_core.specs.declared.serving.Served.{Served}
use Rattle.vi_core.specs.Turning.{turned_of}

-- what the device left is what this turn says: the state, the entry of its mark, and what it did
pub record HasServed (t : ControlTurn) (old new : ControlValue) (done : Served) : Type 0 where
  pub control : new.state ≡ t.control
  pub entry : option_map (entry_with new.answered) done.mark ≡ t.entry
  pub turned_is : turned_of done.turned ≡ t.turned

-- it is the device's turn, whichever script the control is of
abbrev pub IsDevicesTurn : ControlValue → ControlValue → Served → Type 0
IsDevicesTurn old new done = (s : ScriptValue) → plan_of s ≡ old.plan → HasServed (served old.state other_actor (device_turn s old.state)) old new done

-- the event reader's turn, where there is one
abbrev pub read_of : Bool → Control → ControlTurn
read_of events c = if events then event_read c other_actor c.events.waiting else stays model.Waiting c other_actor

-- what it left is what this turn says
pub record HasRead (t : ControlTurn) (old new : ControlValue) (turned : Turned) : Type 0 where
  pub control : new ≡ with_state t.control old
  pub turned_is : turned_of turned ≡ t.turned
