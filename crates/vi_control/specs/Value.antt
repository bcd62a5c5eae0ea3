-- What contracts see of the control.
use Rattle.std.specs.Prelude.{◌≡◌, ℕ, List, Option, Some}
use Rattle.std.specs.Option.{option_map}
use Rattle.vi_history.specs.declared.entry.Entry.{Entry}
use Rattle.vi_history.specs.declared.entry.Mark.{Mark}
use Rattle.vi_lines.specs.Value.{ScriptValue}
use Rattle.vi_model.specs.Control.{Control, Made}
use Rattle.vi_model.specs.Device.{device_turn}
use Rattle.vi_control.specs.Plan.{Plan, plan_of}

-- What it knows of its script, its state, and the bytes of the last entry that the device made: the properties of a
-- PROBE, and else none.
pub record ControlValue : Type 0 where
  pub plan : Plan
  pub state : Control
  pub answered : List ℕ

-- the control with another state
abbrev pub with_state : Control → ControlValue → ControlValue
with_state c v = record v { state = c }

-- the entry of this mark and these bytes
abbrev pub entry_with : List ℕ → Mark → Entry
entry_with bytes mark = record { mark = mark; bytes = bytes }

-- what a turn of the device came to: the state that it left, and the entry of its mark
abbrev pub made_by : ControlValue → Option Mark → Made
made_by v mark = record { control = v.state; entry = option_map (entry_with v.answered) mark }

-- from the first control to the second, with the entry of this mark, is the device's turn, whichever script it is of
abbrev pub IsDeviceTurn : ControlValue → ControlValue → Option Mark → Type 0
IsDeviceTurn old new mark = (s : ScriptValue) → plan_of s ≡ old.plan → device_turn s old.state ≡ Some (made_by new mark)
