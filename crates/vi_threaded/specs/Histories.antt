-- What is printed of a run with Ok, without a word of how it was run: the report of a history that is in order and legal.
use Rattle.std.specs.Prelude.{◌≡◌, ◌≤◌, ℕ, List, length, Ok}
use Rattle.std.specs.declared.option.Option.{Option}
use Rattle.std.specs.Io.KnownBytes.{Appends}
use Rattle.vi_history.specs.Outcomes.{IsWellMade}
use Rattle.vi_history.specs.declared.outcome.Outcome.{Outcome}
use Rattle.vi_report.specs.Texts.{text}
use Rattle.vi_report.specs.Types.{IsTyped}
use Rattle.vi_lines.specs.Value.{ScriptValue}
use Rattle.vi_script.specs.Texts.{script}
use Rattle.vi_lines.specs.Legal.{IsLegalHistory, HasRecords}
use Rattle.vi_lines.specs.Ordered.{IsOrdered}
use Rattle.vi_order.specs.Unmapped.{FaultsBehindUnmaps}
use Rattle.vi_commands.specs.Input.{ReadsAll}
use Rattle.vi_commands.specs.declared.top.TheConstants.{INPUT_LIMIT}

-- The outcome has every line of the script in its history, in order; the history is legal, its fault records are shown well, and
-- nothing in it goes through what was unmapped.
pub record HasHistory (s : ScriptValue) (o : Outcome) : Type 0 where
  pub made : IsWellMade o
  pub ordered : IsOrdered s o.entries
  pub legal : IsLegalHistory s o.entries
  pub records : HasRecords s o
  pub unmapped : FaultsBehindUnmaps s o.entries

-- The source was read to its end, its bytes are a script, and the sink took the report of such an outcome, which determines it.
pub record WritesHistory (left left_now taken taken_now : Option (List ℕ)) : Type 0 where
  pub input : List ℕ
  pub read : ReadsAll left left_now input
  pub within : length input ≤ INPUT_LIMIT
  pub s : ScriptValue
  pub is_script : script input ≡ Ok s
  pub outcome : Outcome
  pub history : HasHistory s outcome
  pub typed : IsTyped outcome
  pub took : Appends taken taken_now (text outcome)
