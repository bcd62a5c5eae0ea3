-- What is kept and needed while a script's lines are replied to.
use Rattle.std.specs.Prelude.{◌≡◌, ◌≤◌, ℕ, List, length, All, Some}
use Rattle.vi_history.specs.Outcomes.{IsEntry, NamesEntry}
use Rattle.vi_history.specs.declared.call.Call.{Call}
use Rattle.vi_history.specs.declared.call.Caller.{Caller}
use Rattle.vi_history.specs.declared.call.Caller.TheVariants.{Driver, Back}
use Rattle.vi_history.specs.declared.entry.Entry.{Entry}
use Rattle.vi_history.specs.declared.outcome.Shown.{Shown}
use Rattle.vi_plain.specs.Conditions.{IsPlainCall}
use Rattle.vi_lines.specs.declared.line.Line.{Line}
use Rattle.vi_lines.specs.Calls.{TransfersWell, call_in}

-- the entries are made as declared, and each record is that of one of them
pub record AreMade (entries : List Entry) (shown : List Shown) : Type 0 where
  pub entries_each : All IsEntry entries
  pub shown_each : All (NamesEntry (length entries)) shown
  pub few : length shown ≤ length entries

-- a driver is one of 0 to 7
abbrev pub IsCaller : Caller → Type 0
IsCaller (Driver number) = number ≤ 7
IsCaller (Back endpoint) = Unit {0}

-- a line of a valid script: the one-thread device takes each of its calls
pub record IsTaken (l : Line) : Type 0 where
  pub transfers : TransfersWell l.job
  pub caller : IsCaller l.caller
  pub calls : (part : ℕ) (c : Call) → call_in l.caller part (Some l) ≡ Some c → IsPlainCall c
