-- How a call of the program ends, by its words, what its source had left, and what its sink took.
use Rattle.std.specs.Prelude.{◌≡◌, ◌≢◌, ◌≤◌, ◌<◌, ◌⊎◌, ℕ, List, length, Some, None, IsSome, ⊤, Result}
use Rattle.std.specs.Prelude as std
use Rattle.std.specs.declared.option.Option.{Option}
use Rattle.std.specs.Io.KnownBytes.{Appends, Keeps}
use Rattle.vi_history.specs.Outcomes.{IsWellMade}
use Rattle.vi_history.specs.declared.outcome.Outcome.{Outcome}
use Rattle.vi_report.specs.Texts.{text}
use Rattle.vi_report.specs.Types.{IsTyped}
use Rattle.vi_report.specs.Reading.{read_report}
use Rattle.vi_sim.specs.Simulated.{simulated}
use Rattle.vi_lines.specs.Value.{ScriptValue}
use Rattle.vi_script.specs.Texts.{Bad}
use Rattle.vi_lines.specs.Legal.{IsLegalHistory, HasRecords}
use Rattle.vi_lines.specs.Ordered.{IsOrdered}
use Rattle.vi_script.specs.declared.fault.BadKind.{BadKind}
use Rattle.vi_order.specs.Unmapped.{FaultsBehindUnmaps}
use Rattle.vi_check.specs.Verdicts.{verdict}
use Rattle.vi_check.specs.Texts.{verdict_text}
use Rattle.vi_check.specs.declared.verdict.Verdict.{Verdict}
use Rattle.vi_check.specs.declared.verdict.Verdict.TheVariants as verdicts
use Rattle.vi_make.specs.LoadScript.{load_script}
use Rattle.vi_trace.specs.Laws.{NoCacheOutlivesAnAck, EachUseIsGranted}
use Rattle.vi_trace.specs.Rules.{Judges, nothing_known}
use Rattle.vi_trace.specs.Texts.{finding_text}
use Rattle.vi_trace.specs.Traces.{trace}
use Rattle.vi_trace.specs.declared.finding.Finding.{Finding}
use Rattle.vi_trace.specs.declared.finding.Finding.TheVariants.{Held, Broken}
use Rattle.vi_trace.specs.declared.finding.Rule.{Rule}
use Rattle.vi_trace.specs.declared.trace.TraceLine.{TraceLine}
use Rattle.vi_commands.specs.Accepted.{accepts, limit_of, task_of, text_task_of, input_limit}
use Rattle.vi_commands.specs.Causes.{Rose}
use Rattle.vi_commands.specs.Input.{ReadsAll, IsPast}
use Rattle.vi_commands.specs.Judged.{judged_report}
use Rattle.vi_commands.specs.OneThread.{one_thread}
use Rattle.vi_commands.specs.Output.{TakesProperPrefix}
use Rattle.vi_commands.specs.Status.{status_text}
use Rattle.vi_commands.specs.Work.{Does, TellsOf, finding_status}
use Rattle.vi_commands.specs.declared.command.Command.{Command}
use Rattle.vi_commands.specs.declared.command.Command.TheVariants.{Make}
use Rattle.vi_commands.specs.declared.command.Task.{Task}
use Rattle.vi_commands.specs.declared.command.Task.TheVariants.{Sim, One, Check}
use Rattle.vi_commands.specs.declared.command.TextTask.{TextTask}
use Rattle.vi_commands.specs.declared.command.TextTask.TheVariants.{Trace}
use Rattle.vi_commands.specs.declared.status.Status.{Status}
use Rattle.vi_commands.specs.declared.status.Status.TheVariants.{Ok, Usage, BadScript, TooLong, ReadFault, WriteFault, OutOfMemory, Wrong, BadReport, BadTrace}
use Rattle.vi_commands.specs.declared.top.TheConstants.{INPUT_LIMIT}

-- the command's work is done on all that the source had left, within the limit
pub record Works (command : Option Command) (old new : Option (List ℕ)) (status : Status) (text : List ℕ) : Type 0 where
  pub task : Task
  pub is_task : task_of command ≡ Some task
  pub input : List ℕ
  pub read : ReadsAll old new input
  pub within : length input ≤ limit_of task
  pub done : Does task input status text

-- the command's text is made of all that the source had left, within the limit
pub record Tells (command : Option Command) (old new : Option (List ℕ)) (status : Status) (text : List ℕ) : Type 0 where
  pub task : TextTask
  pub is_task : text_task_of command ≡ Some task
  pub input : List ℕ
  pub read : ReadsAll old new input
  pub within : length input ≤ INPUT_LIMIT
  pub done : TellsOf task input status text

-- more bytes are left than the command reads
pub record IsTooMuch (command : Option Command) (left : Option (List ℕ)) : Type 0 where
  pub limit : ℕ
  pub is_limit : input_limit command ≡ Some limit
  pub past : IsPast limit left

-- This status and this text are due, where no fault comes and memory is found; old and new are what
-- the source has left before and after.
pub data IsDue (command : Option Command) (old new : Option (List ℕ)) (status : Status) (text : List ℕ) : Type 0 where
  usage : command ≡ None → status ≡ Usage → text ≡ status_text Usage → IsDue command old new status text
  too_long : IsTooMuch command old → status ≡ TooLong → text ≡ status_text TooLong → IsDue command old new status text
  worked : Works command old new status text → IsDue command old new status text
  told : Tells command old new status text → IsDue command old new status text
  made : (rounds : ℕ) → command ≡ Some (Make rounds) → status ≡ Ok → text ≡ load_script rounds → IsDue command old new status text

-- a status that comes in place of the one that was due
abbrev pub IsFault : Status → Type 0
IsFault ReadFault = ⊤
IsFault WriteFault = ⊤
IsFault OutOfMemory = ⊤
IsFault _ = ⊥

-- `sim S T`: the whole input is a script, and what the sink took is the report of its run under the schedule of S and T.
-- The run's history has every line, in order; it is legal, its fault records are shown well, and nothing in it goes
-- through what was unmapped. The text determines the outcome.
pub record WritesReport (generator_seed moves : ℕ) (left_old left_new taken_old taken_new : Option (List ℕ)) : Type 0 where
  pub input : List ℕ
  pub read : ReadsAll left_old left_new input
  pub s : ScriptValue
  pub is_script : accepts (Sim generator_seed moves) input ≡ std.Ok s
  pub made : IsWellMade (simulated s generator_seed moves)
  pub typed : IsTyped (simulated s generator_seed moves)
  pub took : Appends taken_old taken_new (text (simulated s generator_seed moves))
  pub ordered : IsOrdered s (simulated s generator_seed moves).entries
  pub legal : IsLegalHistory s (simulated s generator_seed moves).entries
  pub records : HasRecords s (simulated s generator_seed moves)
  pub unmapped : FaultsBehindUnmaps s (simulated s generator_seed moves).entries

-- `one`: the whole input is a script, and what the sink took is the report of the replies of the one-thread device to its
-- lines. Their history has every line, in order; it is legal, all its fault records are shown, and nothing in it goes through
-- what was unmapped.
pub record WritesReplies (left_old left_new taken_old taken_new : Option (List ℕ)) : Type 0 where
  pub input : List ℕ
  pub read : ReadsAll left_old left_new input
  pub s : ScriptValue
  pub is_script : accepts One input ≡ std.Ok s
  pub made : IsWellMade (one_thread s)
  pub typed : IsTyped (one_thread s)
  pub took : Appends taken_old taken_new (text (one_thread s))
  pub ordered : IsOrdered s (one_thread s).entries
  pub legal : IsLegalHistory s (one_thread s).entries
  pub records : HasRecords s (one_thread s)
  pub unmapped : FaultsBehindUnmaps s (one_thread s).entries

-- the whole input is a script and a report, with the verdict on it
pub record IsJudged (left_old left_new : Option (List ℕ)) : Type 0 where
  pub input : List ℕ
  pub read : ReadsAll left_old left_new input
  pub s : ScriptValue
  pub is_script : accepts Check input ≡ std.Ok s
  pub outcome : Outcome
  pub is_report : read_report (judged_report input) ≡ std.Ok outcome

-- `check`: the verdict is Legal, which is what the sink took. So the report's entries are in order, each answer is that of
-- the one-thread device, and the fault records are those of the entries.
pub record WritesLegal (left_old left_new taken_old taken_new : Option (List ℕ)) : Type 0 where
  pub judged : IsJudged left_old left_new
  pub is_legal : verdict judged.s judged.outcome ≡ verdicts.Legal
  pub took : Appends taken_old taken_new (verdict_text verdicts.Legal)
  pub ordered : IsOrdered judged.s judged.outcome.entries
  pub legal : IsLegalHistory judged.s judged.outcome.entries
  pub records : HasRecords judged.s judged.outcome

-- the verdict isn't Legal, and its text is what the sink took
pub record WritesVerdict (left_old left_new taken_old taken_new : Option (List ℕ)) : Type 0 where
  pub judged : IsJudged left_old left_new
  pub other : verdict judged.s judged.outcome ≢ verdicts.Legal
  pub took : Appends taken_old taken_new (verdict_text (verdict judged.s judged.outcome))

-- `trace`: the whole input is a trace whose finding is Held, and the sink took `held`. So no lawful cache outlives an Ack, and
-- each use was granted.
pub record WritesHeld (left_old left_new taken_old taken_new : Option (List ℕ)) : Type 0 where
  pub input : List ℕ
  pub read : ReadsAll left_old left_new input
  pub lines : List TraceLine
  pub is_trace : trace input ≡ std.Ok lines
  pub is_held : Judges nothing_known lines Held
  pub took : Appends taken_old taken_new (finding_text Held)
  pub obeyed : NoCacheOutlivesAnAck lines × EachUseIsGranted lines

-- the whole input is a trace in which a rule is broken, and the sink took the first line at which one is, and which one
pub record WritesBroken (left_old left_new taken_old taken_new : Option (List ℕ)) : Type 0 where
  pub input : List ℕ
  pub read : ReadsAll left_old left_new input
  pub lines : List TraceLine
  pub is_trace : trace input ≡ std.Ok lines
  pub line : ℕ
  pub rule : Rule
  pub is_broken : Judges nothing_known lines (Broken line rule)
  pub took : Appends taken_old taken_new (finding_text (Broken line rule))

-- what is wrong: `check` wrote a verdict that isn't Legal, or `trace` which rule is broken
pub data WritesWrong (command : Option Command) (left_old left_new taken_old taken_new : Option (List ℕ)) : Type 0 where
  judged : task_of command ≡ Some Check → WritesVerdict left_old left_new taken_old taken_new → WritesWrong command left_old left_new taken_old taken_new
  broken : text_task_of command ≡ Some Trace → WritesBroken left_old left_new taken_old taken_new → WritesWrong command left_old left_new taken_old taken_new

-- what a command whose input has a script did, where it ended with Ok
abbrev pub Writes : Task → Option (List ℕ) → Option (List ℕ) → Option (List ℕ) → Option (List ℕ) → Type 0
Writes (Sim generator_seed moves) left_old left_new taken_old taken_new = WritesReport generator_seed moves left_old left_new taken_old taken_new
Writes One left_old left_new taken_old taken_new = WritesReplies left_old left_new taken_old taken_new
Writes Check left_old left_new taken_old taken_new = WritesLegal left_old left_new taken_old taken_new

-- the whole input is refused at this line
pub record IsRefusedAt (task : Task) (line : ℕ) (kind : BadKind) (left_old left_new : Option (List ℕ)) : Type 0 where
  pub input : List ℕ
  pub read : ReadsAll left_old left_new input
  pub refused : accepts task input ≡ std.Err (record { line = line; kind = kind })

-- the whole input is a script and a report that is refused at this line of its own
pub record IsBadReport (line : ℕ) (left_old left_new : Option (List ℕ)) : Type 0 where
  pub input : List ℕ
  pub read : ReadsAll left_old left_new input
  pub s : ScriptValue
  pub is_script : accepts Check input ≡ std.Ok s
  pub refused : read_report (judged_report input) ≡ std.Err line

-- the whole input is no trace: this is the first of its lines that says something and has no form
pub record IsBadTrace (line : ℕ) (left_old left_new : Option (List ℕ)) : Type 0 where
  pub input : List ℕ
  pub read : ReadsAll left_old left_new input
  pub refused : trace input ≡ std.Err line

-- a status was due, and the sink took a proper prefix of its text
abbrev pub CutsText : Option Command → Option (List ℕ) → Option (List ℕ) → Option (List ℕ) → Option (List ℕ) → Type 0
CutsText command left_old left_new taken_old taken_new =
    (due : Status) × (text : List ℕ) × IsDue command left_old left_new due text × TakesProperPrefix taken_old taken_new text

-- where more bytes than the limit are left, the status is TooLong, unless a fault comes or memory is wanting
abbrev pub IsTooLongPast : ℕ → Option (List ℕ) → Status → Type 0
IsTooLongPast limit None status = ⊤
IsTooLongPast limit (Some input) status = limit < length input → (status ≡ TooLong) ⊎ IsFault status

-- the status of a verdict
abbrev pub verdict_status : Verdict → Status
verdict_status verdicts.Legal = Ok
verdict_status (verdicts.Wrong entry want got) = Wrong
verdict_status (verdicts.Order entry) = Wrong
verdict_status (verdicts.Extra entry) = Wrong
verdict_status (verdicts.Missing caller line part) = Wrong
verdict_status (verdicts.Faults at) = Wrong

-- the status of a report that was read, or of the line at which it is refused
abbrev pub report_status : ScriptValue → Result Outcome ℕ → Status
report_status s (std.Ok outcome) = verdict_status (verdict s outcome)
report_status s (std.Err line) = BadReport line

-- the work on a script is done; for `check` the status is that of its report
abbrev pub IsDone : Task → List ℕ → ScriptValue → Status → Type 0
IsDone (Sim generator_seed moves) input s status = status ≡ Ok
IsDone One input s status = status ≡ Ok
IsDone Check input s status = status ≡ report_status s (read_report (judged_report input))

-- where no more bytes than the limit are left and they are a script, the work is done, unless a fault comes or memory is
-- wanting
abbrev pub IsDoneWithin : Task → Option (List ℕ) → Status → Type 0
IsDoneWithin task None status = ⊤
IsDoneWithin task (Some input) status =
    length input ≤ limit_of task → (s : ScriptValue) → accepts task input ≡ std.Ok s → IsDone task input s status ⊎ IsFault status

-- where no more bytes than the limit are left and they are refused, so is the script, unless a fault comes or memory
-- is wanting
abbrev pub IsRefusedWithin : Task → Option (List ℕ) → Status → Type 0
IsRefusedWithin task None status = ⊤
IsRefusedWithin task (Some input) status =
    length input ≤ limit_of task → (bad : Bad) → accepts task input ≡ std.Err bad → (status ≡ BadScript bad.line bad.kind) ⊎ IsFault status

-- the status of the finding on a trace that was read, or of the first line that has no form
abbrev pub IsTraced : Result (List TraceLine) ℕ → Status → Type 0
IsTraced (std.Ok lines) status = (f : Finding) × Judges nothing_known lines f × (status ≡ finding_status f)
IsTraced (std.Err line) status = status ≡ BadTrace line

-- the work on an input without a script is done
abbrev pub IsTold : TextTask → List ℕ → Status → Type 0
IsTold Trace input status = IsTraced (trace input) status

-- where no more bytes than the limit are left, the work on them is done, unless a fault comes or memory is wanting
abbrev pub IsToldWithin : TextTask → Option (List ℕ) → Status → Type 0
IsToldWithin task None status = ⊤
IsToldWithin task (Some input) status = length input ≤ INPUT_LIMIT → IsTold task input status ⊎ IsFault status

-- how many bytes are read at most by this limit, but for what the last read brings
abbrev pub reads_up_to : Option ℕ → ℕ
reads_up_to None = 0
reads_up_to (Some limit) = limit

-- What is known of the source and the sink at a moment: what is left and what was taken, where they
-- tell it, and their counts of faults.
pub record Outside : Type 0 where
  pub left : Option (List ℕ)
  pub read_faults : ℕ
  pub taken : Option (List ℕ)
  pub write_faults : ℕ

-- A call ends with this status.
pub data Ends (command : Option Command) (old new : Outside) (status : Status) : Type 0 where
  delivered : (text : List ℕ) → IsDue command old.left new.left status text → Appends old.taken new.taken text → Ends command old new status
  cut : CutsText command old.left new.left old.taken new.taken → Rose old.write_faults new.write_faults → status ≡ WriteFault → Ends command old new status
  not_read : IsSome (input_limit command) → Rose old.read_faults new.read_faults → Keeps old.taken new.taken → status ≡ ReadFault → Ends command old new status
  no_memory : IsSome command → Keeps old.taken new.taken → status ≡ OutOfMemory → Ends command old new status
