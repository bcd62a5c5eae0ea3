-- What each command makes of an input that was read to its end: a status, and the text that is written with it.
use Rattle.std.specs.Prelude.{◌≡◌, ◌≢◌, ℕ, List}
use Rattle.std.specs.Prelude as std
use Rattle.vi_history.specs.Outcomes.{IsWellMade}
use Rattle.vi_history.specs.declared.outcome.Outcome.{Outcome}
use Rattle.vi_report.specs.Texts.{text}
use Rattle.vi_report.specs.Types.{IsTyped}
use Rattle.vi_report.specs.Reading.{read_report}
use Rattle.vi_check.specs.Verdicts.{verdict}
use Rattle.vi_check.specs.Texts.{verdict_text}
use Rattle.vi_check.specs.declared.verdict.Verdict.TheVariants as verdicts
use Rattle.vi_sim.specs.Simulated.{simulated}
use Rattle.vi_lines.specs.Value.{ScriptValue}
use Rattle.vi_script.specs.Texts.{Bad}
use Rattle.vi_lines.specs.Legal.{IsLegalHistory, HasRecords}
use Rattle.vi_lines.specs.Ordered.{IsOrdered}
use Rattle.vi_trace.specs.Rules as rules
use Rattle.vi_trace.specs.Texts.{finding_text}
use Rattle.vi_trace.specs.Traces.{trace}
use Rattle.vi_trace.specs.declared.finding.Finding.{Finding}
use Rattle.vi_trace.specs.declared.finding.Finding.TheVariants.{Held, Broken}
use Rattle.vi_trace.specs.declared.trace.TraceLine.{TraceLine}
use Rattle.vi_commands.specs.Accepted.{accepts}
use Rattle.vi_commands.specs.Judged.{judged_report}
use Rattle.vi_commands.specs.OneThread.{one_thread}
use Rattle.vi_commands.specs.Status.{status_text}
use Rattle.vi_commands.specs.declared.command.Task.{Task}
use Rattle.vi_commands.specs.declared.command.Task.TheVariants.{Sim, One, Check}
use Rattle.vi_commands.specs.declared.command.TextTask.{TextTask}
use Rattle.vi_commands.specs.declared.command.TextTask.TheVariants.{Trace}
use Rattle.vi_commands.specs.declared.status.Status.{Status}
use Rattle.vi_commands.specs.declared.status.Status.TheVariants.{Ok, BadScript, Wrong, BadReport, BadTrace}

-- `sim S T`: the text is the report of the script's run under the schedule of S and T. The run's history is in order and
-- legal, and its fault records are shown well.
pub record Sims (s : ScriptValue) (generator_seed moves : ℕ) (answer : List ℕ) : Type 0 where
  pub made : IsWellMade (simulated s generator_seed moves)
  pub typed : IsTyped (simulated s generator_seed moves)
  pub report : answer ≡ text (simulated s generator_seed moves)
  pub ordered : IsOrdered s (simulated s generator_seed moves).entries
  pub legal : IsLegalHistory s (simulated s generator_seed moves).entries
  pub records : HasRecords s (simulated s generator_seed moves)

-- `one`: the text is the report of the replies of the one-thread device
pub record Replies (s : ScriptValue) (answer : List ℕ) : Type 0 where
  pub made : IsWellMade (one_thread s)
  pub typed : IsTyped (one_thread s)
  pub report : answer ≡ text (one_thread s)

-- `check`: a report was read, and this is the text of the verdict on it
pub record Judges (s : ScriptValue) (input answer : List ℕ) : Type 0 where
  pub outcome : Outcome
  pub is_report : read_report (judged_report input) ≡ std.Ok outcome
  pub made : IsWellMade outcome
  pub words : answer ≡ verdict_text (verdict s outcome)

-- What comes of a script: the text that the command makes of it. For `check`, the report may be refused at its first bad
-- line, and the verdict may find something wrong.
pub data Answers (task : Task) (input : List ℕ) (s : ScriptValue) (status : Status) (answer : List ℕ) : Type 0 where
  sims : (generator_seed moves : ℕ) → task ≡ Sim generator_seed moves → Sims s generator_seed moves answer → status ≡ Ok → Answers task input s status answer
  replies : task ≡ One → Replies s answer → status ≡ Ok → Answers task input s status answer
  bad_report : task ≡ Check → (line : ℕ) → read_report (judged_report input) ≡ std.Err line → status ≡ BadReport line → answer ≡ status_text status → Answers task input s status answer
  legal : task ≡ Check → (j : Judges s input answer) → verdict s j.outcome ≡ verdicts.Legal → status ≡ Ok → Answers task input s status answer
  wrong : task ≡ Check → (j : Judges s input answer) → verdict s j.outcome ≢ verdicts.Legal → status ≡ Wrong → Answers task input s status answer

-- The command's work on this input comes to this status and this text: the input is a script that the command takes, or
-- it is refused at its first bad line.
pub data Does (task : Task) (input : List ℕ) (status : Status) (answer : List ℕ) : Type 0 where
  took : (s : ScriptValue) → accepts task input ≡ std.Ok s → Answers task input s status answer → Does task input status answer
  refused : (bad : Bad) → accepts task input ≡ std.Err bad → status ≡ BadScript bad.line bad.kind → answer ≡ status_text status → Does task input status answer

-- the status of a finding
abbrev pub finding_status : Finding → Status
finding_status Held = Ok
finding_status (Broken line rule) = Wrong

-- What a command makes of an input without a script. `trace`: the input is a trace, with the status and the text of its
-- finding, or it is none, for its first line that has no form.
pub data TellsOf (task : TextTask) (input : List ℕ) (status : Status) (answer : List ℕ) : Type 0 where
  finds : task ≡ Trace → (lines : List TraceLine) (f : Finding) → trace input ≡ std.Ok lines → rules.Judges rules.nothing_known lines f → status ≡ finding_status f → answer ≡ finding_text f → TellsOf task input status answer
  no_trace : task ≡ Trace → (line : ℕ) → trace input ≡ std.Err line → status ≡ BadTrace line → answer ≡ status_text status → TellsOf task input status answer
