-- A driver's turn over its own lines and the control.
use Rattle.std.specs.Prelude.{◌≡◌, ◌==◌, ◌≤◌, ◌<◌, ◌+◌, ℕ, Bool, true, false, length, Option, Some, None, All}
use Rattle.std.specs.List.{list_any}
use Rattle.vi_lines.specs.declared.line.Line.{Line}
use Rattle.vi_lines.specs.Value.{ScriptValue}
use Rattle.vi_lines.specs.Calls.{awaits_in}
use Rattle.vi_model.specs.Bounds.{HasSubmitRoom}
use Rattle.vi_model.specs.Control.{Answered, Port, Control, driver_count, port_of}
use Rattle.vi_model.specs.Drivers.{Stand, Parcel, Chain, Switch, first_answer, driver_turn, collect, left, submit}
use Rattle.vi_model.specs.Actors.{stand_in, driver_actor}
use Rattle.vi_model.specs.Turns.{ControlTurn, driver_idle, driven}
use Rattle.vi_calls.specs.declared.calls.Collected.{Collected}
use Rattle.vi_calls.specs.declared.calls.Collected.TheVariants.{NotYet, Used, Set}
use Rattle.vi_calls.specs.Collecting.{AreAnsweredOnce}
use Rattle.vi_driver.specs.Drivers.{OwnDriver, own_driver, continues_batch, next_line, parcel_in}
use Rattle.vi_core.specs.declared.turned.Turned.{Turned}
use Rattle.vi_core.specs.Turning.{turned_of}
use Rattle.vi_control.specs.Calls.{IsCaller}
use Rattle.vi_control.specs.Plan.{Plan, plan_of}
use Rattle.vi_control.specs.Value.{ControlValue, with_state}

-- the request queue takes a parcel: a request of at most 1024 bytes each way, and some, or a setting
abbrev pub IsParcel : Option Parcel → Type 0
IsParcel None = ⊥
IsParcel (Some (Chain read write)) = (length read ≤ 1024) × (write ≤ 1024) × (0 < length read + write)
IsParcel (Some (Switch on)) = Unit {0}

-- what a driver needs to submit its next line
pub record HasLineRoom (c : Control) (d : OwnDriver) (l : Line) : Type 0 where
  pub room : HasSubmitRoom c d.number
  pub open_lines : length d.stand.open_lines < 8
  pub parcel : IsParcel (parcel_in (Some l))

-- What a driver's turn needs, which a sound world gives it: no line of it is answered twice, an answered line is open,
-- its next line finds room where its open lines are all of that line's batch, and what that line awaits is of callers
-- that there are.
pub record HasDriveRoom (plan : Plan) (c : Control) (d : OwnDriver) : Type 0 where
  pub number : d.number < driver_count
  pub ports : length c.ports ≡ driver_count
  pub once : AreAnsweredOnce (let p : Port = port_of c d.number in p.answered)
  pub answered : (a : Answered) → first_answer (let p : Port = port_of c d.number in p.answered) ≡ Some a → list_any (λ n. n == a.line) d.stand.open_lines ≡ true
  pub submit : (l : Line) → next_line d ≡ Some l → continues_batch d ≡ true → HasLineRoom c d l
  pub awaited : All (λ a. IsCaller plan.ids a.caller) (awaits_in (next_line d))

-- a driver's turn of a script
abbrev pub drive_of : ScriptValue → Control → OwnDriver → ControlTurn
drive_of s c d = driven (driver_idle s d.number d.stand) c (driver_actor d.stand) (driver_turn s c d.number d.stand)

-- what a turn left is what this one says
pub record Drove (t : ControlTurn) (old new : ControlValue) (before after : OwnDriver) (turned : Turned) : Type 0 where
  pub control : new ≡ with_state t.control old
  pub driver : after ≡ record before { stand = stand_in t.actor.progress }
  pub turned_is : turned_of turned ≡ t.turned

-- it is the driver's turn, whichever script both are of
abbrev pub IsDriversTurn : ControlValue → ControlValue → OwnDriver → OwnDriver → Turned → Type 0
IsDriversTurn old new before after turned = (s : ScriptValue) → plan_of s ≡ old.plan → before ≡ own_driver s before.number before.stand → Drove (drive_of s old.state before) old new before after turned

-- the driver's answered line of the lowest number
abbrev pub first_of : Control → OwnDriver → Option Answered
first_of c d = first_answer (let p : Port = port_of c d.number in p.answered)

-- what a collection leaves: nothing where no line is answered
abbrev pub IsCollected : Option Answered → Bool → ControlValue → ControlValue → OwnDriver → OwnDriver → Type 0
IsCollected None moved old new before after = (moved ≡ false) × (new ≡ old) × (after ≡ before)
IsCollected (Some a) moved old new before after =
    (moved ≡ true) × (new ≡ with_state (collect old.state before.number before.stand a.line).control old)
    × (after ≡ record before { stand = (collect old.state before.number before.stand a.line).stand })

-- what is left for the device
abbrev pub IsLeft : Option Parcel → ControlValue → ControlValue → OwnDriver → Type 0
IsLeft None old new d = ⊥
IsLeft (Some parcel) old new d = new ≡ with_state (left old.state d.number (let x : Stand = d.stand in x.submitted + 1) parcel) old

-- what a submission of a parcel leaves
abbrev pub IsSubmission : Option Parcel → ControlValue → ControlValue → OwnDriver → OwnDriver → Type 0
IsSubmission None old new before after = ⊥
IsSubmission (Some parcel) old new before after =
    (new ≡ with_state (submit old.state before.number before.stand parcel).control old) × (after ≡ record before { stand = (submit old.state before.number before.stand parcel).stand })

-- the line that was collected
abbrev pub line_in : Collected → Option ℕ
line_in NotYet = None
line_in (Used line len) = Some line
line_in (Set line) = Some line
