-- What contracts see of a pass and of the shared object, and what is due of a pass.
use Rattle.std.specs.Prelude.{◌≡◌, ◌⊎◌, ℕ, true, false, List, [], ◌∷◌, Option, Some, None}
use Rattle.atomic_table.specs.Seated.{TableId}
use Rattle.vi_history.specs.declared.entry.Entry.{Entry}
use Rattle.vi_log.specs.Logs.{LogValue}
use Rattle.vi_lines.specs.Value.{ScriptValue}
use Rattle.vi_model.specs.Control.{Control}
use Rattle.vi_control.specs.Plan.{plan_of}
use Rattle.vi_control.specs.Value.{ControlValue}
use Rattle.vi_turns.specs.Holding.{Held, TheControl, ThePage}
use Rattle.vi_turns.specs.Order.{slot_of}
use Rattle.vi_turns.specs.Views.{turn_of, accesses_of, access_of, due_control}
use Rattle.vi_turns.specs.declared.slot.Slot.{Slot}
use Rattle.vi_turns.specs.declared.slot.Slot.TheVariants.{Out}
use Rattle.vi_turns.specs.declared.view.View.{View}

-- the table that it is a pass of, its seat there, its view, and for how many more entries and bytes its log has room
pub record PassValue : Type 0 where
  pub table : TableId
  pub seat : ℕ
  pub view : View
  pub spare_entries : ℕ
  pub spare_bytes : ℕ

-- its script, and the table
pub record Board : Type 0 where
  pub script : ScriptValue
  pub table : TableId

-- the slots that are out with a pass: what it holds was taken from there
abbrev pub slots_of : Option Held → List (ℕ × Slot)
slots_of None = []
slots_of (Some x) = (slot_of x, Out) ∷ []

-- the log of a pass with these entries
abbrev pub log_of : PassValue → LogValue
log_of p = record { entries = let v : View = p.view in v.log; spare_entries = p.spare_entries; spare_bytes = p.spare_bytes }

-- it is the same pass with the same room in its log
pub record IsSamePass (p q : PassValue) : Type 0 where
  pub table : q.table ≡ p.table
  pub seat : q.seat ≡ p.seat
  pub entries : q.spare_entries ≡ p.spare_entries
  pub bytes : q.spare_bytes ≡ p.spare_bytes

-- it records this control, or this page, as held
abbrev pub HoldsControl : Control → View → Type 0
HoldsControl c v = v.held ≡ Some (TheControl c)

abbrev pub HoldsPage : ℕ → List ℕ → View → Type 0
HoldsPage page bytes v = v.held ≡ Some (ThePage page bytes)

-- The pass holds the control, and its actor's turn on it makes this entry.
pub record IsDueUnderControl (v : View) (e : Entry) : Type 0 where
  pub control : Control
  pub holds : HoldsControl control v
  pub entry : (turn_of v control).entry ≡ Some e

-- The pass holds a page, and its actor's turn is an access of that page, which makes this entry.
pub record IsDueUnderPage (v : View) (e : Entry) : Type 0 where
  pub page : ℕ
  pub bytes : List ℕ
  pub holds : HoldsPage page bytes v
  pub accesses : accesses_of v page ≡ true
  pub entry : (access_of v bytes).entry ≡ Some e

abbrev pub IsDue : View → Entry → Type 0
IsDue v e = IsDueUnderControl v e ⊎ IsDueUnderPage v e

-- The control that the pass has to give back: the one that it recorded at its stamp, or, where it hasn't stamped, the one
-- that its actor's turn leaves, which then makes no entry.
pub record IsDueControl (v : View) (given : ControlValue) : Type 0 where
  pub control : Control
  pub holds : HoldsControl control v
  pub state : given.state ≡ due_control v control
  pub plan : given.plan ≡ plan_of v.script
  pub none : v.stamped ≡ false → (turn_of v control).entry ≡ None
