-- How a call of the program that runs threads ends.
use Rattle.std.specs.Prelude.{◌≡◌, ◌≤◌, ◌<◌, ◌⊎◌, ℕ, List, [], ◌++◌, length, Some, None, ⊤}
use Rattle.std.specs.Prelude as std
use Rattle.std.specs.declared.option.Option.{Option}
use Rattle.std.specs.Io.KnownBytes.{Appends, Keeps}
use Rattle.vi_history.specs.Start.{start}
use Rattle.vi_history.specs.declared.call.Call.{Call}
use Rattle.vi_history.specs.declared.entry.Entry.{Entry}
use Rattle.vi_history.specs.declared.outcome.Outcome.{Outcome}
use Rattle.vi_report.specs.Texts.{text}
use Rattle.vi_report.specs.Types.{IsTyped}
use Rattle.vi_lines.specs.Legal.{IsLegalHistory}
use Rattle.vi_lines.specs.Value.{ScriptValue}
use Rattle.vi_script.specs.Texts.{script, Bad}
use Rattle.vi_make.specs.LoadScript.{load_script}
use Rattle.vi_make.specs.Summaries.{summary_line}
use Rattle.vi_dirty.specs.Rounds.{dirty_text}
use Rattle.vi_run.specs.Runs.{FinishedValue, CameTo}
use Rattle.vi_commands.specs.Causes.{Rose}
use Rattle.vi_commands.specs.Input.{ReadsAll, IsPast}
use Rattle.vi_commands.specs.Output.{TakesProperPrefix}
use Rattle.vi_commands.specs.Status.{status_text}
use Rattle.vi_commands.specs.Top.{Outside, IsFault}
use Rattle.vi_threaded.specs.Histories.{HasHistory}
use Rattle.vi_threaded.specs.declared.threaded.Threaded.{Threaded}
use Rattle.vi_threaded.specs.declared.threaded.Threaded.TheVariants.{Run, Load, Dirty}
use Rattle.vi_commands.specs.declared.status.Status.{Status}
use Rattle.vi_commands.specs.declared.status.Status.TheVariants.{Ok, BadScript, TooLong, ReadFault, WriteFault, OutOfMemory}
use Rattle.vi_commands.specs.declared.top.TheConstants.{INPUT_LIMIT}

-- A run of the script on threads came to this outcome, which has the entries of its own logs by rising ticket, and a history that is
-- in order and legal.
pub record RanTo (s : ScriptValue) (f : FinishedValue) (o : Outcome) : Type 0 where
  pub script_is : f.last.script ≡ s
  pub came : CameTo f o
  pub history : HasHistory s o

-- the forms that read a script and run it
abbrev pub ReadsScript : Threaded → Type 0
ReadsScript (Run workers) = ⊤
ReadsScript (Load rounds workers) = ⊥
ReadsScript (Dirty every workers) = ⊤

-- What such a form writes of a run that did these calls: the report, and `dirty` below it the pages that the calls wrote.
abbrev pub report_text : Threaded → ScriptValue → Outcome → List Call → List ℕ
report_text (Run workers) s o calls = text o
report_text (Load rounds workers) s o calls = []
report_text (Dirty every workers) s o calls = text o ++ dirty_text every (start s.setup) calls

-- the text is that of a run of the script, and its report determines the outcome
pub record ReportsRun (form : Threaded) (s : ScriptValue) (f : FinishedValue) (answer : List ℕ) : Type 0 where
  pub outcome : Outcome
  pub ran : RanTo s f outcome
  pub typed : IsTyped outcome
  pub report : answer ≡ report_text form s outcome ran.history.legal.calls

-- a script was read and run, and this is the text of the run
pub record Reports (form : Threaded) (old new : Option (List ℕ)) (run : Option FinishedValue) (answer : List ℕ) : Type 0 where
  pub input : List ℕ
  pub read : ReadsAll old new input
  pub within : length input ≤ INPUT_LIMIT
  pub s : ScriptValue
  pub is_script : script input ≡ std.Ok s
  pub finished : FinishedValue
  pub run_is : run ≡ Some finished
  pub of_run : ReportsRun form s finished answer

-- the input is a script, of which these entries are a legal history
pub record IsHistoryOf (input : List ℕ) (entries : List Entry) : Type 0 where
  pub s : ScriptValue
  pub is_script : script input ≡ std.Ok s
  pub legal : IsLegalHistory s entries

-- the line is the summary of a run of the script
pub record SumsRun (rounds : ℕ) (s : ScriptValue) (f : FinishedValue) (answer : List ℕ) : Type 0 where
  pub outcome : Outcome
  pub ran : RanTo s f outcome
  pub summary : answer ≡ summary_line rounds outcome.entries

-- `load N W` ran the load script of N rounds, and this is the summary of the run.
pub record Summarizes (rounds : ℕ) (run : Option FinishedValue) (answer : List ℕ) : Type 0 where
  pub s : ScriptValue
  pub is_script : script (load_script rounds) ≡ std.Ok s
  pub finished : FinishedValue
  pub run_is : run ≡ Some finished
  pub of_run : SumsRun rounds s finished answer

-- the script that was read is refused
pub record Refuses (old new : Option (List ℕ)) (status : Status) : Type 0 where
  pub input : List ℕ
  pub read : ReadsAll old new input
  pub within : length input ≤ INPUT_LIMIT
  pub bad : Bad
  pub refused : script input ≡ std.Err bad
  pub status_is : status ≡ BadScript bad.line bad.kind

-- This run, status and text are due, where no fault comes and memory is found; old and new are what the source has left
-- before and after.
pub data IsRunDue (form : Threaded) (old new : Option (List ℕ)) (run : Option FinishedValue) (status : Status) (answer : List ℕ) : Type 0 where
  too_long : ReadsScript form → IsPast INPUT_LIMIT old → run ≡ None → status ≡ TooLong → answer ≡ status_text TooLong → IsRunDue form old new run status answer
  refused : ReadsScript form → Refuses old new status → run ≡ None → answer ≡ status_text status → IsRunDue form old new run status answer
  reports : ReadsScript form → Reports form old new run answer → status ≡ Ok → IsRunDue form old new run status answer
  summarizes : (rounds workers : ℕ) → form ≡ Load rounds workers → Summarizes rounds run answer → status ≡ Ok → IsRunDue form old new run status answer

-- a status was due, and the sink took a proper prefix of its text
pub record CutsRun (form : Threaded) (old new : Outside) (run : Option FinishedValue) : Type 0 where
  pub due : Status
  pub answer : List ℕ
  pub is_due : IsRunDue form old.left new.left run due answer
  pub prefix : TakesProperPrefix old.taken new.taken answer
  pub rose : Rose old.write_faults new.write_faults

-- A call that runs threads ends with this run and this status.
pub data EndsRun (form : Threaded) (old new : Outside) (run : Option FinishedValue) (status : Status) : Type 0 where
  delivered : (answer : List ℕ) → IsRunDue form old.left new.left run status answer → Appends old.taken new.taken answer → EndsRun form old new run status
  cut : CutsRun form old new run → status ≡ WriteFault → EndsRun form old new run status
  not_read : ReadsScript form → Rose old.read_faults new.read_faults → Keeps old.taken new.taken → run ≡ None → status ≡ ReadFault → EndsRun form old new run status
  no_memory : Keeps old.taken new.taken → run ≡ None → status ≡ OutOfMemory → EndsRun form old new run status

-- With Ok, the source was read to its end, and the sink took the text of a run of the script that it gave.
pub record WritesRun (form : Threaded) (old new : Outside) (run : Option FinishedValue) : Type 0 where
  pub answer : List ℕ
  pub reports : Reports form old.left new.left run answer
  pub took : Appends old.taken new.taken answer

-- With Ok, the sink of `load N W` took the summary of a run of the load script.
pub record WritesSummary (rounds : ℕ) (old new : Outside) (run : Option FinishedValue) : Type 0 where
  pub answer : List ℕ
  pub summarizes : Summarizes rounds run answer
  pub took : Appends old.taken new.taken answer

-- Where no more bytes than the limit are left and they are a script, it is run; where they are refused, so is the script; where
-- more are left, the input is too long: unless a fault comes or memory is wanting.
abbrev pub IsRunWithin : Option (List ℕ) → Status → Type 0
IsRunWithin None status = ⊤
IsRunWithin (Some input) status = length input ≤ INPUT_LIMIT → (s : ScriptValue) → script input ≡ std.Ok s → (status ≡ Ok) ⊎ IsFault status

abbrev pub IsRunRefused : Option (List ℕ) → Status → Type 0
IsRunRefused None status = ⊤
IsRunRefused (Some input) status = length input ≤ INPUT_LIMIT → (bad : Bad) → script input ≡ std.Err bad → (status ≡ BadScript bad.line bad.kind) ⊎ IsFault status

abbrev pub IsRunTooLong : Option (List ℕ) → Status → Type 0
IsRunTooLong None status = ⊤
IsRunTooLong (Some input) status = INPUT_LIMIT < length input → (status ≡ TooLong) ⊎ IsFault status
