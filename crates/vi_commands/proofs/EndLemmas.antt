-- How a call ends, from how its text was delivered, and what each status then says.
use Rattle.std.proofs.Common.{◌≡◌, ◌≢◌, ◌≤◌, ◌<◌, ◌⊎◌, ℕ, List, [], length, Some, None, IsSome, refl, sym, ◌∙◌, ap, subst, inl, inr, arith}
use Rattle.std.specs.Prelude as std
use Rattle.std.specs.declared.option.Option.{Option}
use Rattle.std.specs.Io.KnownBytes.{Appends, Keeps}
use Rattle.std.proofs.KnownBytes.{Appends-nil, Appends-kept}
use Rattle.vi_history.specs.declared.outcome.Outcome.{Outcome}
use Rattle.vi_lines.specs.Value.{ScriptValue}
use Rattle.vi_script.specs.Texts.{Bad}
use Rattle.vi_script.specs.declared.fault.BadKind.{BadKind}
use Rattle.vi_report.specs.Reading.{read_report}
use Rattle.vi_check.specs.Verdicts.{verdict}
use Rattle.vi_check.specs.Texts.{verdict_text}
use Rattle.vi_check.specs.declared.verdict.Verdict.{Verdict}
use Rattle.vi_check.specs.declared.verdict.Verdict.TheVariants as verdicts
use Rattle.vi_check.proofs.LegalLemmas.{legal_exactly}
use Rattle.vi_sim.specs.Simulated.{simulated}
use Rattle.vi_order.proofs.Unmapped.{unmaps_hold}
use Rattle.vi_make.specs.LoadScript.{load_script}
use Rattle.vi_trace.specs.Traces.{trace}
use Rattle.vi_trace.specs.declared.finding.Finding.{Finding}
use Rattle.vi_trace.specs.declared.finding.Finding.TheVariants.{Held, Broken}
use Rattle.vi_trace.specs.declared.trace.TraceLine.{TraceLine}
use Rattle.vi_trace.proofs.Granted.{uses_granted}
use Rattle.vi_trace.proofs.Outlives.{nothing_outlives}
use Rattle.vi_commands.specs.Accepted.{accepts, limit_of, task_of, text_task_of, input_limit}
use Rattle.vi_commands.specs.Causes.{Rose}
use Rattle.vi_commands.specs.Input.{ReadsAll}
use Rattle.vi_commands.specs.Judged.{judged_report}
use Rattle.vi_commands.specs.OneThread.{one_thread}
use Rattle.vi_commands.specs.Output.{TakesProperPrefix}
use Rattle.vi_commands.specs.Status.{status_text}
use Rattle.vi_commands.specs.Work.{Sims, Judges, Answers, sims, replies, bad_report, legal, wrong, Does, took, refused, finding_status, TellsOf, finds, no_trace}
use Rattle.vi_commands.specs.Top.{Outside, Works, Tells, IsTooMuch, IsDue, usage, too_long, worked, told, made, IsFault, IsJudged, WritesReport, WritesVerdict, WritesHeld, WritesBroken, WritesWrong, judged, broken, Writes, IsRefusedAt, IsBadReport, IsBadTrace, CutsText, IsTooLongPast, verdict_status, report_status, IsDone, IsDoneWithin, IsRefusedWithin, IsTraced, IsTold, IsToldWithin, Ends, delivered, cut, not_read, no_memory}
use Rattle.vi_commands.specs.declared.command.Command.{Command}
use Rattle.vi_commands.specs.declared.command.Command.TheVariants.{Script, Text, Make}
use Rattle.vi_commands.specs.declared.command.Task.{Task}
use Rattle.vi_commands.specs.declared.command.Task.TheVariants.{Sim, One, Check}
use Rattle.vi_commands.specs.declared.command.TextTask.{TextTask}
use Rattle.vi_commands.specs.declared.command.TextTask.TheVariants.{Trace}
use Rattle.vi_commands.specs.declared.status.Status.{Status}
use Rattle.vi_commands.specs.declared.status.Status.TheVariants.{Ok, Usage, BadScript, TooLong, ReadFault, WriteFault, OutOfMemory, Wrong, BadReport, BadTrace}
use Rattle.vi_commands.specs.declared.top.TheConstants.{INPUT_LIMIT}
use Rattle.vi_commands.proofs.AcceptedLemmas.{accepts-valid}
use Rattle.vi_commands.proofs.OneLemmas.{one_thread-legal, one_thread-records}
use Rattle.vi_commands.proofs.OneOrdered.{one_thread-ordered}

-- the text that is due is written, or the call ends with a write fault
pub Ends-from_deliver : (command : Option Command) (old new : Outside) (due result : Status) (text : List ℕ) → IsDue command old.left new.left due text
    → (result ≡ due) ⊎ (result ≡ WriteFault)
    → (result ≡ due → Appends old.taken new.taken text)
    → (result ≡ WriteFault → TakesProperPrefix old.taken new.taken text)
    → (result ≡ WriteFault → Rose old.write_faults new.write_faults)
    → Ends command old new result
Ends-from_deliver command old new due result text is_due either whole prefix rose = elim either [
  | inl same ↦ delivered text (subst (λ (s : Status). IsDue command old.left new.left s text) (sym same) is_due) (whole same)
  | inr fault ↦ cut (due, text, is_due, prefix fault) (rose fault) fault
]

-- a load script was written, or it wasn't made
pub Ends-from_make : (command : Option Command) (old new : Outside) (result : Status) (rounds : ℕ) → command ≡ Some (Make rounds)
    → (result ≡ Ok) ⊎ ((result ≡ WriteFault) ⊎ (result ≡ OutOfMemory))
    → (result ≡ Ok → Appends old.taken new.taken (load_script rounds))
    → (result ≡ WriteFault → TakesProperPrefix old.taken new.taken (load_script rounds))
    → (result ≡ OutOfMemory → Keeps old.taken new.taken)
    → (result ≡ WriteFault → Rose old.write_faults new.write_faults)
    → Ends command old new result
Ends-from_make command old new result rounds form either whole prefix nothing rose = elim either [
  | inl same ↦ delivered (load_script rounds) (made rounds form same refl) (whole same)
  | inr other ↦ elim other [
    | inl fault ↦ cut (Ok, load_script rounds, made rounds form refl refl, prefix fault) (rose fault) fault
    | inr wanting ↦ no_memory (subst IsSome (sym form) refl) (nothing wanting) wanting
  ]
]

-- a command's work has a status of its own
abbrev IsWorkStatus : Status → Type 0
IsWorkStatus Ok = Unit {0}
IsWorkStatus (BadScript _ _) = Unit {0}
IsWorkStatus Wrong = Unit {0}
IsWorkStatus (BadReport _) = Unit {0}
IsWorkStatus (BadTrace _) = Unit {0}
IsWorkStatus _ = ⊥

answers_status : {task : Task} {input : List ℕ} {s : ScriptValue} {status : Status} {answer : List ℕ} → Answers task input s status answer → IsWorkStatus status
answers_status (sims a b is d st) = subst IsWorkStatus (sym st) tt
answers_status (replies is d st) = subst IsWorkStatus (sym st) tt
answers_status (bad_report is line r st a) = subst IsWorkStatus (sym st) tt
answers_status (legal is j v st) = subst IsWorkStatus (sym st) tt
answers_status (wrong is j v st) = subst IsWorkStatus (sym st) tt

does_status : {task : Task} {input : List ℕ} {status : Status} {answer : List ℕ} → Does task input status answer → IsWorkStatus status
does_status (took s is answers) = answers_status answers
does_status (refused bad is st a) = subst IsWorkStatus (sym st) tt

finding_work : (f : Finding) → IsWorkStatus (finding_status f)
finding_work Held = tt
finding_work (Broken line rule) = tt

tells_status : {task : TextTask} {input : List ℕ} {status : Status} {answer : List ℕ} → TellsOf task input status answer → IsWorkStatus status
tells_status (finds _ lines f is j st a) = subst IsWorkStatus (sym st) (finding_work f)
tells_status (no_trace _ line r st a) = subst IsWorkStatus (sym st) tt

-- and a text is written with it
pub tells_unfailed : {task : TextTask} {input : List ℕ} {status : Status} {answer : List ℕ} → TellsOf task input status answer → status ≢ WriteFault
tells_unfailed tells is = subst IsWorkStatus is (tells_status tells)

due_not : {command : Option Command} {old new : Option (List ℕ)} {status : Status} {text : List ℕ} (other : Status) → (IsWorkStatus other → ⊥) → (other ≡ Usage → ⊥) → (other ≡ TooLong → ⊥)
    → IsDue command old new status text → status ≡ other → ⊥
due_not other no_work no_usage no_length (usage none st a) is = no_usage (sym is ∙ st)
due_not other no_work no_usage no_length (too_long much st a) is = no_length (sym is ∙ st)
due_not other no_work no_usage no_length (worked w) is = no_work (subst IsWorkStatus is (does_status w.done))
due_not other no_work no_usage no_length (told w) is = no_work (subst IsWorkStatus is (tells_status w.done))
due_not other no_work no_usage no_length (made rounds form st a) is = no_work (subst IsWorkStatus (sym st ∙ is) tt)

not_none : {A : Type 0} {o : Option A} → IsSome o → o ≡ None → ⊥
not_none some none = absurd (cc (subst IsSome none some))

-- no task without a command
no_task : {command : Option Command} {task : Task} → command ≡ None → task_of command ≡ Some task → ⊥
no_task none is = absurd (cc (sym (ap task_of none) ∙ is))

make_task : {command : Option Command} {rounds : ℕ} {task : Task} → command ≡ Some (Make rounds) → task_of command ≡ Some task → ⊥
make_task form is = absurd (cc (sym (ap task_of form) ∙ is))

no_text : {command : Option Command} {task : TextTask} → command ≡ None → text_task_of command ≡ Some task → ⊥
no_text none is = absurd (cc (sym (ap text_task_of none) ∙ is))

make_text : {command : Option Command} {rounds : ℕ} {task : TextTask} → command ≡ Some (Make rounds) → text_task_of command ≡ Some task → ⊥
make_text form is = absurd (cc (sym (ap text_task_of form) ∙ is))

-- an input has a script, or it has none
one_task : (command : Option Command) {task : Task} {text_task : TextTask} → task_of command ≡ Some task → text_task_of command ≡ Some text_task → ⊥
one_task None is other = absurd (cc is)
one_task (Some (Script task)) is other = absurd (cc other)
one_task (Some (Text task)) is other = absurd (cc is)
one_task (Some (Make rounds)) is other = absurd (cc is)

-- the limit of a command is that of its task
no_limit : {command : Option Command} {limit : ℕ} → command ≡ None → input_limit command ≡ Some limit → ⊥
no_limit none is = absurd (cc (sym (ap input_limit none) ∙ is))

make_limit : {command : Option Command} {rounds limit : ℕ} → command ≡ Some (Make rounds) → input_limit command ≡ Some limit → ⊥
make_limit form is = absurd (cc (sym (ap input_limit form) ∙ is))

task_limit : (command : Option Command) (task : Task) → task_of command ≡ Some task → input_limit command ≡ Some (limit_of task)
task_limit None task is = absurd (cc is)
task_limit (Some (Script own)) task is = let same : own ≡ task = cc is in ap (λ (t : Task). Some (limit_of t)) same
task_limit (Some (Text own)) task is = absurd (cc is)
task_limit (Some (Make rounds)) task is = absurd (cc is)

text_limit : (command : Option Command) (task : TextTask) → text_task_of command ≡ Some task → input_limit command ≡ Some INPUT_LIMIT
text_limit None task is = absurd (cc is)
text_limit (Some (Script own)) task is = absurd (cc is)
text_limit (Some (Text own)) task is = refl
text_limit (Some (Make rounds)) task is = absurd (cc is)

-- the text of a status that isn't Ok or Wrong is its own
answers_text : {task : Task} {input : List ℕ} {s : ScriptValue} {status : Status} {answer : List ℕ} → Answers task input s status answer → status ≢ Ok → status ≢ Wrong → answer ≡ status_text status
answers_text (sims a b is d st) not_ok not_wrong = absurd (not_ok st)
answers_text (replies is d st) not_ok not_wrong = absurd (not_ok st)
answers_text (bad_report is line r st a) not_ok not_wrong = a
answers_text (legal is j v st) not_ok not_wrong = absurd (not_ok st)
answers_text (wrong is j v st) not_ok not_wrong = absurd (not_wrong st)

does_text : {task : Task} {input : List ℕ} {status : Status} {answer : List ℕ} → Does task input status answer → status ≢ Ok → status ≢ Wrong → answer ≡ status_text status
does_text (took s is answers) not_ok not_wrong = answers_text answers not_ok not_wrong
does_text (refused bad is st a) not_ok not_wrong = a

finding_said : (f : Finding) → finding_status f ≢ Ok → finding_status f ≢ Wrong → ⊥
finding_said Held not_ok not_wrong = not_ok refl
finding_said (Broken line rule) not_ok not_wrong = not_wrong refl

tells_text : {task : TextTask} {input : List ℕ} {status : Status} {answer : List ℕ} → TellsOf task input status answer → status ≢ Ok → status ≢ Wrong → answer ≡ status_text status
tells_text (finds _ lines f is j st a) not_ok not_wrong = absurd (finding_said f (λ e. not_ok (st ∙ e)) (λ e. not_wrong (st ∙ e)))
tells_text (no_trace _ line r st a) not_ok not_wrong = a

due_text : {command : Option Command} {old new : Option (List ℕ)} {status : Status} {text : List ℕ} → IsDue command old new status text → status ≢ Ok → status ≢ Wrong → text ≡ status_text status
due_text (usage none s t) not_ok not_wrong = t ∙ ap status_text (sym s)
due_text (too_long much s t) not_ok not_wrong = t ∙ ap status_text (sym s)
due_text (worked w) not_ok not_wrong = does_text w.done not_ok not_wrong
due_text (told w) not_ok not_wrong = tells_text w.done not_ok not_wrong
due_text (made rounds form st t) not_ok not_wrong = absurd (not_ok st)

-- nothing more was taken
nothing_taken : (old new : Option (List ℕ)) (status : Status) → Keeps old new → status_text status ≡ [] → Appends old new (status_text status)
nothing_taken old new status kept none = rw none (Appends-kept old old new [] (Appends-nil old) kept)

-- the work's input is what the source told to be left
told_input : {command : Option Command} {new : Option (List ℕ)} {status : Status} {text : List ℕ} (left : List ℕ) (w : Works command (Some left) new status text) → w.input ≡ left
told_input left w = w.read.0

told_trace : {command : Option Command} {new : Option (List ℕ)} {status : Status} {text : List ℕ} (left : List ℕ) (w : Tells command (Some left) new status text) → w.input ≡ left
told_trace left w = w.read.0

IsFault-from : (fault status : Status) → status ≡ fault → IsFault fault → IsFault status
IsFault-from fault status is f = subst IsFault (sym is) f

-- what a verdict that is Legal, or another, has as its status
legal_status : (v : Verdict) → v ≡ verdicts.Legal → verdict_status v ≡ Ok
legal_status v is = ap verdict_status is

other_status : (v : Verdict) → v ≢ verdicts.Legal → verdict_status v ≡ Wrong
other_status verdicts.Legal other = absurd (other refl)
other_status (verdicts.Wrong entry want got) other = refl
other_status (verdicts.Order entry) other = refl
other_status (verdicts.Extra entry) other = refl
other_status (verdicts.Missing caller line part) other = refl
other_status (verdicts.Faults at) other = refl

-- a report is refused by `check` alone, and a trace by `trace`
tells_no_report : {task : TextTask} {input : List ℕ} {status : Status} {answer : List ℕ} {line : ℕ} → TellsOf task input status answer → status ≡ BadReport line → ⊥
tells_no_report {status = status} (finds _ lines Held found j st a) is = let other : status ≡ Ok = st in absurd (cc (other, is))
tells_no_report {status = status} (finds _ lines (Broken at rule) found j st a) is = let other : status ≡ Wrong = st in absurd (cc (other, is))
tells_no_report (no_trace _ at r st a) is = absurd (cc (st, is))

does_no_trace : {task : Task} {input : List ℕ} {status : Status} {answer : List ℕ} {line : ℕ} → Does task input status answer → status ≡ BadTrace line → ⊥
does_no_trace (took s accepted (sims _ _ _ d st)) is = absurd (cc (st, is))
does_no_trace (took s accepted (replies _ d st)) is = absurd (cc (st, is))
does_no_trace (took s accepted (bad_report _ l r st a)) is = absurd (cc (st, is))
does_no_trace (took s accepted (legal _ j v st)) is = absurd (cc (st, is))
does_no_trace (took s accepted (wrong _ j v st)) is = absurd (cc (st, is))
does_no_trace (refused bad r st a) is = absurd (cc (st, is))

-- what one schedule writes is what the same one writes
abbrev SimsAs : ScriptValue → List ℕ → Task → Type 0
SimsAs s answer (Sim generator_seed moves) = Sims s generator_seed moves answer
SimsAs s answer One = Unit {0}
SimsAs s answer Check = Unit {0}

sims_same : (s : ScriptValue) (answer : List ℕ) (task : Task) (other_seed other_moves : ℕ) → task ≡ Sim other_seed other_moves → Sims s other_seed other_moves answer → SimsAs s answer task
sims_same s answer task other_seed other_moves same d = subst (SimsAs s answer) (sym same) d

module _ (command : Option Command) (old new : Outside) (status : Status) where
  pub usage_only : Ends command old new status → status ≡ Usage → command ≡ None
  usage_only (delivered text (usage none _ _) _) is = none
  usage_only (delivered text (too_long _ s _) _) is = absurd (cc (s, is))
  usage_only (delivered text (worked w) _) is = absurd (subst IsWorkStatus is (does_status w.done))
  usage_only (delivered text (told w) _) is = absurd (subst IsWorkStatus is (tells_status w.done))
  usage_only (delivered text (made _ _ s _) _) is = absurd (cc (s, is))
  usage_only (cut _ _ s) is = absurd (cc (s, is))
  usage_only (not_read _ _ _ s) is = absurd (cc (s, is))
  usage_only (no_memory _ _ s) is = absurd (cc (s, is))

  pub usage_or_fault : Ends command old new status → command ≡ None → (status ≡ Usage) ⊎ (status ≡ WriteFault)
  usage_or_fault (delivered text (usage _ s _) _) none = inl s
  usage_or_fault (delivered text (too_long much _ _) _) none = absurd (no_limit none much.is_limit)
  usage_or_fault (delivered text (worked w) _) none = absurd (no_task none w.is_task)
  usage_or_fault (delivered text (told w) _) none = absurd (no_text none w.is_task)
  usage_or_fault (delivered text (made _ form _ _) _) none = absurd (cc (form, none))
  usage_or_fault (cut _ _ s) none = inr s
  usage_or_fault (not_read some _ _ _) none = absurd (not_none some (ap input_limit none))
  usage_or_fault (no_memory some _ _) none = absurd (not_none some none)

  pub past_only : Ends command old new status → status ≡ TooLong → IsTooMuch command old.left
  past_only (delivered text (usage _ s _) _) is = absurd (cc (s, is))
  past_only (delivered text (too_long much _ _) _) is = much
  past_only (delivered text (worked w) _) is = absurd (subst IsWorkStatus is (does_status w.done))
  past_only (delivered text (told w) _) is = absurd (subst IsWorkStatus is (tells_status w.done))
  past_only (delivered text (made _ _ s _) _) is = absurd (cc (s, is))
  past_only (cut _ _ s) is = absurd (cc (s, is))
  past_only (not_read _ _ _ s) is = absurd (cc (s, is))
  past_only (no_memory _ _ s) is = absurd (cc (s, is))

  -- the load script was written, or nothing was made of it
  pub made_or_fault : Ends command old new status → (rounds : ℕ) → command ≡ Some (Make rounds) → (status ≡ Ok) ⊎ IsFault status
  made_or_fault (delivered text (usage none _ _) _) rounds is = absurd (cc (none, is))
  made_or_fault (delivered text (too_long much _ _) _) rounds is = absurd (make_limit is much.is_limit)
  made_or_fault (delivered text (worked w) _) rounds is = absurd (make_task is w.is_task)
  made_or_fault (delivered text (told w) _) rounds is = absurd (make_text is w.is_task)
  made_or_fault (delivered text (made _ _ s _) _) rounds is = inl s
  made_or_fault (cut _ _ s) rounds is = inr (IsFault-from WriteFault status s tt)
  made_or_fault (not_read _ _ _ s) rounds is = inr (IsFault-from ReadFault status s tt)
  made_or_fault (no_memory _ _ s) rounds is = inr (IsFault-from OutOfMemory status s tt)

  pub script_written : Ends command old new status → (rounds : ℕ) → command ≡ Some (Make rounds) → status ≡ Ok → Appends old.taken new.taken (load_script rounds)
  script_written (delivered text (usage none _ _) _) rounds form is = absurd (cc (none, form))
  script_written (delivered text (too_long much _ _) _) rounds form is = absurd (make_limit form much.is_limit)
  script_written (delivered text (worked w) _) rounds form is = absurd (make_task form w.is_task)
  script_written (delivered text (told w) _) rounds form is = absurd (make_text form w.is_task)
  script_written (delivered text (made others made_form _ t) taken) rounds form is =
      let same : others ≡ rounds = cc (made_form, form) in
      subst (λ (bytes : List ℕ). Appends old.taken new.taken bytes) (t ∙ ap load_script same) taken
  script_written (cut _ _ s) rounds form is = absurd (cc (s, is))
  script_written (not_read _ _ _ s) rounds form is = absurd (cc (s, is))
  script_written (no_memory _ _ s) rounds form is = absurd (cc (s, is))

  -- the work of a command whose input has a script
  record WorkOf (task : Task) : Type 0 where
    text : List ℕ
    input : List ℕ
    read : ReadsAll old.left new.left input
    taken : Appends old.taken new.taken text
    done : Does task input status text

  works_of : {text : List ℕ} → IsWorkStatus status → (task : Task) → task_of command ≡ Some task → IsDue command old.left new.left status text → Appends old.taken new.taken text → WorkOf task
  works_of is task form (usage none _ _) taken = absurd (no_task none form)
  works_of is task form (too_long _ s _) taken = absurd (subst IsWorkStatus s is)
  works_of {text = text} is task form (worked w) taken =
      let same : w.task ≡ task = cc (w.is_task, form) in
      record { text = text; input = w.input; read = w.read; taken = taken; done = subst (λ (t : Task). Does t w.input status text) same w.done }
  works_of is task form (told w) taken = absurd (one_task command form w.is_task)
  works_of is task form (made _ make _ _) taken = absurd (make_task make form)

  -- the work was done, and the sink took its whole text
  worked_out : Ends command old new status → IsWorkStatus status → (task : Task) → task_of command ≡ Some task → WorkOf task
  worked_out (delivered text due taken) is task form = works_of is task form due taken
  worked_out (cut _ _ s) is task form = absurd (subst IsWorkStatus s is)
  worked_out (not_read _ _ _ s) is task form = absurd (subst IsWorkStatus s is)
  worked_out (no_memory _ _ s) is task form = absurd (subst IsWorkStatus s is)

  -- the work of a command whose input has none
  record TextOf (task : TextTask) : Type 0 where
    text : List ℕ
    input : List ℕ
    read : ReadsAll old.left new.left input
    taken : Appends old.taken new.taken text
    done : TellsOf task input status text

  text_of : {text : List ℕ} → IsWorkStatus status → (task : TextTask) → text_task_of command ≡ Some task → IsDue command old.left new.left status text → Appends old.taken new.taken text → TextOf task
  text_of is task form (usage none _ _) taken = absurd (no_text none form)
  text_of is task form (too_long _ s _) taken = absurd (subst IsWorkStatus s is)
  text_of is task form (worked w) taken = absurd (one_task command w.is_task form)
  text_of {text = text} is task form (told w) taken =
      let same : w.task ≡ task = cc (w.is_task, form) in
      record { text = text; input = w.input; read = w.read; taken = taken; done = subst (λ (t : TextTask). TellsOf t w.input status text) same w.done }
  text_of is task form (made _ make _ _) taken = absurd (make_text make form)

  texted : Ends command old new status → IsWorkStatus status → (task : TextTask) → text_task_of command ≡ Some task → TextOf task
  texted (delivered text due taken) is task form = text_of is task form due taken
  texted (cut _ _ s) is task form = absurd (subst IsWorkStatus s is)
  texted (not_read _ _ _ s) is task form = absurd (subst IsWorkStatus s is)
  texted (no_memory _ _ s) is task form = absurd (subst IsWorkStatus s is)

  -- which task it was, where a command's work has this status
  abbrev SomeTask : Type 0
  SomeTask = ((task : Task) × (task_of command ≡ Some task)) ⊎ ((task : TextTask) × (text_task_of command ≡ Some task))

  task_due : {text : List ℕ} → IsWorkStatus status → status ≢ Ok → IsDue command old.left new.left status text → SomeTask
  task_due is not_ok (usage _ s _) = absurd (subst IsWorkStatus s is)
  task_due is not_ok (too_long _ s _) = absurd (subst IsWorkStatus s is)
  task_due is not_ok (worked w) = inl (w.task, w.is_task)
  task_due is not_ok (told w) = inr (w.task, w.is_task)
  task_due is not_ok (made _ _ s _) = absurd (not_ok s)

  task_at : Ends command old new status → IsWorkStatus status → status ≢ Ok → SomeTask
  task_at (delivered text due taken) is not_ok = task_due is not_ok due
  task_at (cut _ _ s) is not_ok = absurd (subst IsWorkStatus s is)
  task_at (not_read _ _ _ s) is not_ok = absurd (subst IsWorkStatus s is)
  task_at (no_memory _ _ s) is not_ok = absurd (subst IsWorkStatus s is)

  abbrev judged_of : (input answer : List ℕ) (s : ScriptValue) → ReadsAll old.left new.left input → accepts Check input ≡ std.Ok s → Judges s input answer → IsJudged old.left new.left
  judged_of input answer s read is j = record { input = input; read = read; s = s; is_script = is; outcome = j.outcome; is_report = j.is_report }

  -- the report of a run was written
  report_written : (generator_seed moves : ℕ) (input answer : List ℕ) (s : ScriptValue) → ReadsAll old.left new.left input → Appends old.taken new.taken answer → accepts (Sim generator_seed moves) input ≡ std.Ok s → Sims s generator_seed moves answer
      → WritesReport generator_seed moves old.left new.left old.taken new.taken
  report_written generator_seed moves input answer s read taken accepted d = record {
    input = input;
    read = read;
    s = s;
    is_script = accepted;
    made = d.made;
    typed = d.typed;
    took = subst (λ (t : List ℕ). Appends old.taken new.taken t) d.report taken;
    ordered = d.ordered;
    legal = d.legal;
    records = d.records;
    unmapped = unmaps_hold s (simulated s generator_seed moves).entries d.legal;
  }

  ok_answers : (task : Task) (input answer : List ℕ) (s : ScriptValue) → ReadsAll old.left new.left input → Appends old.taken new.taken answer → status ≡ Ok → accepts task input ≡ std.Ok s → Answers task input s status answer
      → Writes task old.left new.left old.taken new.taken
  ok_answers (Sim generator_seed moves) input answer s read taken is accepted (sims other_seed other_moves same d st) =
      report_written generator_seed moves input answer s read taken accepted (sims_same s answer (Sim generator_seed moves) other_seed other_moves same d)
  ok_answers (Sim generator_seed moves) input answer s read taken is accepted (replies other d st) = absurd (cc other)
  ok_answers (Sim generator_seed moves) input answer s read taken is accepted (bad_report other line r st a) = absurd (cc other)
  ok_answers (Sim generator_seed moves) input answer s read taken is accepted (legal other j v st) = absurd (cc other)
  ok_answers (Sim generator_seed moves) input answer s read taken is accepted (wrong other j v st) = absurd (cc other)
  ok_answers One input answer s read taken is accepted (sims _ _ other d st) = absurd (cc other)
  ok_answers One input answer s read taken is accepted (replies _ d st) = record {
    input = input;
    read = read;
    s = s;
    is_script = accepted;
    made = d.made;
    typed = d.typed;
    took = subst (λ (t : List ℕ). Appends old.taken new.taken t) d.report taken;
    ordered = one_thread-ordered s (accepts-valid One input s accepted);
    legal = one_thread-legal s;
    records = one_thread-records s;
    unmapped = unmaps_hold s (one_thread s).entries (one_thread-legal s);
  }
  ok_answers One input answer s read taken is accepted (bad_report other line r st a) = absurd (cc other)
  ok_answers One input answer s read taken is accepted (legal other j v st) = absurd (cc other)
  ok_answers One input answer s read taken is accepted (wrong other j v st) = absurd (cc other)
  ok_answers Check input answer s read taken is accepted (sims _ _ other d st) = absurd (cc other)
  ok_answers Check input answer s read taken is accepted (replies other d st) = absurd (cc other)
  ok_answers Check input answer s read taken is accepted (bad_report _ line r st a) = absurd (cc (st, is))
  ok_answers Check input answer s read taken is accepted (legal _ j v st) =
      let right = (legal_exactly s j.outcome (accepts-valid Check input s accepted) j.made).0 v in
      record {
        judged = judged_of input answer s read accepted j;
        is_legal = v;
        took = subst (λ (t : List ℕ). Appends old.taken new.taken t) (j.words ∙ ap verdict_text v) taken;
        ordered = right.0;
        legal = right.1;
        records = right.2;
      }
  ok_answers Check input answer s read taken is accepted (wrong _ j v st) = absurd (cc (st, is))

  ok_does : (task : Task) (w : WorkOf task) → status ≡ Ok → Does task w.input status w.text → Writes task old.left new.left old.taken new.taken
  ok_does task w is (took s accepted answers) = ok_answers task w.input w.text s w.read w.taken is accepted answers
  ok_does task w is (refused bad r st a) = absurd (cc (st, is))

  pub text_written : Ends command old new status → (task : Task) → task_of command ≡ Some task → status ≡ Ok → Writes task old.left new.left old.taken new.taken
  text_written ends task form is =
      let w : WorkOf task = worked_out ends (subst IsWorkStatus (sym is) tt) task form in
      ok_does task w is w.done

  bad_does : (task : Task) (line : ℕ) (kind : BadKind) (input answer : List ℕ) → ReadsAll old.left new.left input → status ≡ BadScript line kind → Does task input status answer → IsRefusedAt task line kind old.left new.left
  bad_does task line kind input answer read is (took s accepted (sims _ _ _ d st)) = absurd (cc (st, is))
  bad_does task line kind input answer read is (took s accepted (replies _ d st)) = absurd (cc (st, is))
  bad_does task line kind input answer read is (took s accepted (bad_report _ l r st a)) = absurd (cc (st, is))
  bad_does task line kind input answer read is (took s accepted (legal _ j v st)) = absurd (cc (st, is))
  bad_does task line kind input answer read is (took s accepted (wrong _ j v st)) = absurd (cc (st, is))
  bad_does task line kind input answer read is (refused bad r st a) =
      let l : bad.line ≡ line = cc (st, is) in
      let k : bad.kind ≡ kind = cc (st, is) in
      record { input = input; read = read; refused = r ∙ (λ i. std.Err (record { line = l i; kind = k i })) }

  pub refused_only : Ends command old new status → (task : Task) (line : ℕ) (kind : BadKind) → task_of command ≡ Some task → status ≡ BadScript line kind → IsRefusedAt task line kind old.left new.left
  refused_only ends task line kind form is =
      let w : WorkOf task = worked_out ends (subst IsWorkStatus (sym is) tt) task form in
      bad_does task line kind w.input w.text w.read is w.done

  report_does : (task : Task) (line : ℕ) (input answer : List ℕ) → ReadsAll old.left new.left input → status ≡ BadReport line → Does task input status answer → (task ≡ Check) × IsBadReport line old.left new.left
  report_does task line input answer read is (took s accepted (sims _ _ _ d st)) = absurd (cc (st, is))
  report_does task line input answer read is (took s accepted (replies _ d st)) = absurd (cc (st, is))
  report_does task line input answer read is (took s accepted (bad_report check l r st a)) =
      let same : l ≡ line = cc (st, is) in
      (check, record { input = input; read = read; s = s; is_script = subst (λ (t : Task). accepts t input ≡ std.Ok s) check accepted; refused = r ∙ ap (λ (n : ℕ). std.Err n) same })
  report_does task line input answer read is (took s accepted (legal _ j v st)) = absurd (cc (st, is))
  report_does task line input answer read is (took s accepted (wrong _ j v st)) = absurd (cc (st, is))
  report_does task line input answer read is (refused bad r st a) = absurd (cc (st, is))

  some_task : {task other : Task} → task_of command ≡ Some task → task ≡ other → task_of command ≡ Some other
  some_task form same = form ∙ ap (λ (t : Task). Some t) same

  report_of : Ends command old new status → (line : ℕ) → status ≡ BadReport line → SomeTask → (task_of command ≡ Some Check) × IsBadReport line old.left new.left
  report_of ends line is (inl t) =
      let w : WorkOf t.0 = worked_out ends (subst IsWorkStatus (sym is) tt) t.0 t.1 in
      let r = report_does t.0 line w.input w.text w.read is w.done in
      (some_task t.1 r.0, r.1)
  report_of ends line is (inr t) =
      let w : TextOf t.0 = texted ends (subst IsWorkStatus (sym is) tt) t.0 t.1 in
      absurd (tells_no_report w.done is)

  pub report_refused : Ends command old new status → (line : ℕ) → status ≡ BadReport line → (task_of command ≡ Some Check) × IsBadReport line old.left new.left
  report_refused ends line is = report_of ends line is (task_at ends (subst IsWorkStatus (sym is) tt) (λ ok. absurd (cc (ok, is))))

  wrong_does : (task : Task) (w : WorkOf task) → status ≡ Wrong → Does task w.input status w.text → (task ≡ Check) × WritesVerdict old.left new.left old.taken new.taken
  wrong_does task w is (took s accepted (sims _ _ _ d st)) = absurd (cc (st, is))
  wrong_does task w is (took s accepted (replies _ d st)) = absurd (cc (st, is))
  wrong_does task w is (took s accepted (bad_report _ l r st a)) = absurd (cc (st, is))
  wrong_does task w is (took s accepted (legal _ j v st)) = absurd (cc (st, is))
  wrong_does task w is (took s accepted (wrong check j v st)) = (
    check,
    record {
      judged = judged_of w.input w.text s w.read (subst (λ (t : Task). accepts t w.input ≡ std.Ok s) check accepted) j;
      other = v;
      took = subst (λ (t : List ℕ). Appends old.taken new.taken t) j.words w.taken;
    },
  )
  wrong_does task w is (refused bad r st a) = absurd (cc (st, is))

  -- the only task that there is without a script
  some_trace : {task : TextTask} → text_task_of command ≡ Some task → task ≡ Trace → text_task_of command ≡ Some Trace
  some_trace form same = form ∙ ap (λ (t : TextTask). Some t) same

  held_tells : (task : TextTask) (w : TextOf task) → status ≡ Ok → TellsOf task w.input status w.text → WritesHeld old.left new.left old.taken new.taken
  held_tells task w is (finds _ lines Held found j st a) = record {
    input = w.input;
    read = w.read;
    lines = lines;
    is_trace = found;
    is_held = j;
    took = subst (λ (t : List ℕ). Appends old.taken new.taken t) a w.taken;
    obeyed = (nothing_outlives lines j, uses_granted lines j);
  }
  held_tells task w is (finds _ lines (Broken line rule) found j st a) = let other : status ≡ Wrong = st in absurd (cc (other, is))
  held_tells task w is (no_trace _ line r st a) = absurd (cc (st, is))

  -- a trace that holds was read
  pub held_written : Ends command old new status → text_task_of command ≡ Some Trace → status ≡ Ok → WritesHeld old.left new.left old.taken new.taken
  held_written ends form is =
      let w : TextOf Trace = texted ends (subst IsWorkStatus (sym is) tt) Trace form in
      held_tells Trace w is w.done

  broken_tells : (task : TextTask) (w : TextOf task) → status ≡ Wrong → TellsOf task w.input status w.text → (task ≡ Trace) × WritesBroken old.left new.left old.taken new.taken
  broken_tells task w is (finds _ lines Held found j st a) = let other : status ≡ Ok = st in absurd (cc (other, is))
  broken_tells task w is (finds trace_task lines (Broken line rule) found j st a) = (
    trace_task,
    record {
      input = w.input;
      read = w.read;
      lines = lines;
      is_trace = found;
      line = line;
      rule = rule;
      is_broken = j;
      took = subst (λ (t : List ℕ). Appends old.taken new.taken t) a w.taken;
    },
  )
  broken_tells task w is (no_trace _ line r st a) = absurd (cc (st, is))

  wrong_of : Ends command old new status → status ≡ Wrong → SomeTask → WritesWrong command old.left new.left old.taken new.taken
  wrong_of ends is (inl t) =
      let w : WorkOf t.0 = worked_out ends (subst IsWorkStatus (sym is) tt) t.0 t.1 in
      let r = wrong_does t.0 w is w.done in
      judged (some_task t.1 r.0) r.1
  wrong_of ends is (inr t) =
      let w : TextOf t.0 = texted ends (subst IsWorkStatus (sym is) tt) t.0 t.1 in
      let r = broken_tells t.0 w is w.done in
      broken (some_trace t.1 r.0) r.1

  -- a verdict or a finding says what is wrong
  pub wrong_written : Ends command old new status → status ≡ Wrong → WritesWrong command old.left new.left old.taken new.taken
  wrong_written ends is = wrong_of ends is (task_at ends (subst IsWorkStatus (sym is) tt) (λ ok. absurd (cc (ok, is))))

  trace_tells : (task : TextTask) (line : ℕ) (w : TextOf task) → status ≡ BadTrace line → TellsOf task w.input status w.text → (task ≡ Trace) × IsBadTrace line old.left new.left
  trace_tells task line w is (finds _ lines Held found j st a) = let other : status ≡ Ok = st in absurd (cc (other, is))
  trace_tells task line w is (finds _ lines (Broken at rule) found j st a) = let other : status ≡ Wrong = st in absurd (cc (other, is))
  trace_tells task line w is (no_trace trace_task l r st a) =
      let same : l ≡ line = cc (st, is) in
      (trace_task, record { input = w.input; read = w.read; refused = r ∙ ap (λ (n : ℕ). std.Err n) same })

  trace_of : Ends command old new status → (line : ℕ) → status ≡ BadTrace line → SomeTask → (text_task_of command ≡ Some Trace) × IsBadTrace line old.left new.left
  trace_of ends line is (inl t) =
      let w : WorkOf t.0 = worked_out ends (subst IsWorkStatus (sym is) tt) t.0 t.1 in
      absurd (does_no_trace w.done is)
  trace_of ends line is (inr t) =
      let w : TextOf t.0 = texted ends (subst IsWorkStatus (sym is) tt) t.0 t.1 in
      let r = trace_tells t.0 line w is w.done in
      (some_trace t.1 r.0, r.1)

  pub trace_refused : Ends command old new status → (line : ℕ) → status ≡ BadTrace line → (text_task_of command ≡ Some Trace) × IsBadTrace line old.left new.left
  trace_refused ends line is = trace_of ends line is (task_at ends (subst IsWorkStatus (sym is) tt) (λ ok. absurd (cc (ok, is))))

  pub read_fault_rose : Ends command old new status → status ≡ ReadFault → Rose old.read_faults new.read_faults
  read_fault_rose (delivered text due _) is = absurd (due_not ReadFault (λ work. work) (λ e. absurd (cc e)) (λ e. absurd (cc e)) due is)
  read_fault_rose (cut _ _ s) is = absurd (cc (s, is))
  read_fault_rose (not_read _ rose _ s) is = rose
  read_fault_rose (no_memory _ _ s) is = absurd (cc (s, is))

  pub write_fault_rose : Ends command old new status → status ≡ WriteFault → Rose old.write_faults new.write_faults
  write_fault_rose (delivered text due _) is = absurd (due_not WriteFault (λ work. work) (λ e. absurd (cc e)) (λ e. absurd (cc e)) due is)
  write_fault_rose (cut _ rose _) is = rose
  write_fault_rose (not_read _ _ _ s) is = absurd (cc (s, is))
  write_fault_rose (no_memory _ _ s) is = absurd (cc (s, is))

  pub text_cut : Ends command old new status → status ≡ WriteFault → CutsText command old.left new.left old.taken new.taken
  text_cut (delivered text due _) is = absurd (due_not WriteFault (λ work. work) (λ e. absurd (cc e)) (λ e. absurd (cc e)) due is)
  text_cut (cut cuts _ _) is = cuts
  text_cut (not_read _ _ _ s) is = absurd (cc (s, is))
  text_cut (no_memory _ _ s) is = absurd (cc (s, is))

  pub refusal_text : Ends command old new status → status ≢ Ok → status ≢ WriteFault → status ≢ Wrong → Appends old.taken new.taken (status_text status)
  refusal_text (delivered text due taken) not_ok not_fault not_wrong = subst (Appends old.taken new.taken) (due_text due not_ok not_wrong) taken
  refusal_text (cut _ _ s) not_ok not_fault not_wrong = absurd (not_fault s)
  refusal_text (not_read _ _ kept s) not_ok not_fault not_wrong = nothing_taken old.taken new.taken status kept (ap status_text s)
  refusal_text (no_memory _ kept s) not_ok not_fault not_wrong = nothing_taken old.taken new.taken status kept (ap status_text s)

-- where the source tells what is left
module _ (command : Option Command) (input : List ℕ) (left_new : Option (List ℕ)) (status : Status) where
  due_past : {text : List ℕ} (limit : ℕ) → IsDue command (Some input) left_new status text → input_limit command ≡ Some limit → limit < length input → status ≡ TooLong
  due_past limit (usage none _ _) form past = absurd (no_limit none form)
  due_past limit (too_long _ s _) form past = s
  due_past limit (worked w) form past =
      let same : limit_of w.task ≡ limit = cc (task_limit command w.task w.is_task, form) in
      absurd (omega (arith, past, w.within, same, ap length (told_input input w)))
  due_past limit (told w) form past =
      let same : INPUT_LIMIT ≡ limit = cc (text_limit command w.task w.is_task, form) in
      absurd (omega (arith, past, w.within, same, ap length (told_trace input w)))
  due_past limit (made _ make _ _) form past = absurd (make_limit make form)

  due_does : {text : List ℕ} (task : Task) → IsDue command (Some input) left_new status text → task_of command ≡ Some task → length input ≤ limit_of task → Does task input status text
  due_does task (usage none _ _) form within = absurd (no_task none form)
  due_does task (too_long much _ _) form within =
      let same : much.limit ≡ limit_of task = cc (much.is_limit, task_limit command task form) in
      absurd (omega (arith, within, much.past, same))
  due_does {text = text} task (worked w) form within =
      let same : w.task ≡ task = cc (w.is_task, form) in
      subst (λ (i : List ℕ). Does task i status text) (told_input input w) (subst (λ (t : Task). Does t w.input status text) same w.done)
  due_does task (told w) form within = absurd (one_task command form w.is_task)
  due_does task (made _ make _ _) form within = absurd (make_task make form)

  due_tells : {text : List ℕ} (task : TextTask) → IsDue command (Some input) left_new status text → text_task_of command ≡ Some task → length input ≤ INPUT_LIMIT → TellsOf task input status text
  due_tells task (usage none _ _) form within = absurd (no_text none form)
  due_tells task (too_long much _ _) form within =
      let same : much.limit ≡ INPUT_LIMIT = cc (much.is_limit, text_limit command task form) in
      absurd (omega (arith, within, much.past, same))
  due_tells task (worked w) form within = absurd (one_task command w.is_task form)
  due_tells {text = text} task (told w) form within =
      let same : w.task ≡ task = cc (w.is_task, form) in
      subst (λ (i : List ℕ). TellsOf task i status text) (told_trace input w) (subst (λ (t : TextTask). TellsOf t w.input status text) same w.done)
  due_tells task (made _ make _ _) form within = absurd (make_text make form)

read_status : (s : ScriptValue) (input : List ℕ) (o : Outcome) → read_report (judged_report input) ≡ std.Ok o → report_status s (read_report (judged_report input)) ≡ verdict_status (verdict s o)
read_status s input o is = ap (report_status s) is

done_answers : (task : Task) {input answer : List ℕ} {status : Status} (s : ScriptValue) → Answers task input s status answer → IsDone task input s status
done_answers (Sim generator_seed moves) s (sims _ _ _ d st) = st
done_answers (Sim generator_seed moves) s (replies other d st) = absurd (cc other)
done_answers (Sim generator_seed moves) s (bad_report other line r st a) = absurd (cc other)
done_answers (Sim generator_seed moves) s (legal other j v st) = absurd (cc other)
done_answers (Sim generator_seed moves) s (wrong other j v st) = absurd (cc other)
done_answers One s (sims _ _ other d st) = absurd (cc other)
done_answers One s (replies _ d st) = st
done_answers One s (bad_report other line r st a) = absurd (cc other)
done_answers One s (legal other j v st) = absurd (cc other)
done_answers One s (wrong other j v st) = absurd (cc other)
done_answers Check s (sims _ _ other d st) = absurd (cc other)
done_answers Check s (replies other d st) = absurd (cc other)
done_answers Check s (bad_report _ line r st a) = st ∙ sym (ap (report_status s) r)
done_answers Check {input = input} s (legal _ j v st) = st ∙ sym (read_status s input j.outcome j.is_report ∙ legal_status (verdict s j.outcome) v)
done_answers Check {input = input} s (wrong _ j v st) = st ∙ sym (read_status s input j.outcome j.is_report ∙ other_status (verdict s j.outcome) v)

done_does : (task : Task) {input answer : List ℕ} {status : Status} (s : ScriptValue) → accepts task input ≡ std.Ok s → Does task input status answer → IsDone task input s status ⊎ IsFault status
done_does task {input = input} {status = status} s is (took other accepted answers) =
    let same : other ≡ s = cc (is, accepted) in
    inl (subst (λ (t : ScriptValue). IsDone task input t status) same (done_answers task other answers))
done_does task s is (refused bad r st a) = absurd (cc (is, r))

refused_does : (task : Task) {input answer : List ℕ} {status : Status} (bad : Bad) → accepts task input ≡ std.Err bad → Does task input status answer → (status ≡ BadScript bad.line bad.kind) ⊎ IsFault status
refused_does task bad is (took other accepted answers) = absurd (cc (is, accepted))
refused_does task bad is (refused other r st a) =
    let same : other ≡ bad = cc (is, r) in
    inl (st ∙ ap (λ (b : Bad). BadScript b.line b.kind) same)

-- a trace has the status of its finding, and a text that is none that of its line
traced : (task : TextTask) (input : List ℕ) (status : Status) {answer : List ℕ} → TellsOf task input status answer → IsTraced (trace input) status
traced task input status (finds _ lines f found j st a) = subst (λ (r : std.Result (List TraceLine) ℕ). IsTraced r status) (sym found) (f, j, st)
traced task input status (no_trace _ line r st a) = subst (λ (r : std.Result (List TraceLine) ℕ). IsTraced r status) (sym r) st

told_of : (task : TextTask) (input : List ℕ) (status : Status) {answer : List ℕ} → TellsOf task input status answer → IsTold task input status
told_of Trace input status tells = traced Trace input status tells

too_long_from_due : (limit : ℕ) (command : Option Command) (left new : Option (List ℕ)) (status : Status) {text : List ℕ} → IsDue command left new status text → input_limit command ≡ Some limit → IsTooLongPast limit left status
too_long_from_due limit command None new status due form = tt
too_long_from_due limit command (Some input) new status due form = λ past. inl (due_past command input new status limit due form past)

told_from_due : (task : TextTask) (command : Option Command) (left new : Option (List ℕ)) (status : Status) {text : List ℕ} → IsDue command left new status text → text_task_of command ≡ Some task → IsToldWithin task left status
told_from_due task command None new status due form = tt
told_from_due task command (Some input) new status due form = λ within. inl (told_of task input status (due_tells command input new status task due form within))

done_from_due : (task : Task) (command : Option Command) (left new : Option (List ℕ)) (status : Status) {text : List ℕ} → IsDue command left new status text → task_of command ≡ Some task → IsDoneWithin task left status
done_from_due task command None new status due form = tt
done_from_due task command (Some input) new status due form = λ within s is_script. done_does task s is_script (due_does command input new status task due form within)

refused_from_due : (task : Task) (command : Option Command) (left new : Option (List ℕ)) (status : Status) {text : List ℕ} → IsDue command left new status text → task_of command ≡ Some task → IsRefusedWithin task left status
refused_from_due task command None new status due form = tt
refused_from_due task command (Some input) new status due form = λ within bad is_bad. refused_does task bad is_bad (due_does command input new status task due form within)

too_long_from_fault : (limit : ℕ) (left : Option (List ℕ)) (fault status : Status) → status ≡ fault → IsFault fault → IsTooLongPast limit left status
too_long_from_fault limit None fault status is f = tt
too_long_from_fault limit (Some input) fault status is f = λ past. inr (IsFault-from fault status is f)

told_from_fault : (task : TextTask) (left : Option (List ℕ)) (fault status : Status) → status ≡ fault → IsFault fault → IsToldWithin task left status
told_from_fault task None fault status is f = tt
told_from_fault task (Some input) fault status is f = λ within. inr (IsFault-from fault status is f)

done_from_fault : (task : Task) (left : Option (List ℕ)) (fault status : Status) → status ≡ fault → IsFault fault → IsDoneWithin task left status
done_from_fault task None fault status is f = tt
done_from_fault task (Some input) fault status is f = λ within s is_script. inr (IsFault-from fault status is f)

refused_from_fault : (task : Task) (left : Option (List ℕ)) (fault status : Status) → status ≡ fault → IsFault fault → IsRefusedWithin task left status
refused_from_fault task None fault status is f = tt
refused_from_fault task (Some input) fault status is f = λ within bad is_bad. inr (IsFault-from fault status is f)

module _ (command : Option Command) (old new : Outside) (status : Status) where
  pub too_long_or_fault : Ends command old new status → (limit : ℕ) → input_limit command ≡ Some limit → IsTooLongPast limit old.left status
  too_long_or_fault (delivered text due _) limit form = too_long_from_due limit command old.left new.left status due form
  too_long_or_fault (cut _ _ s) limit form = too_long_from_fault limit old.left WriteFault status s tt
  too_long_or_fault (not_read _ _ _ s) limit form = too_long_from_fault limit old.left ReadFault status s tt
  too_long_or_fault (no_memory _ _ s) limit form = too_long_from_fault limit old.left OutOfMemory status s tt

  -- a trace is judged, and a text that is none is refused, unless a fault comes
  pub told_or_fault : Ends command old new status → (task : TextTask) → text_task_of command ≡ Some task → IsToldWithin task old.left status
  told_or_fault (delivered text due _) task form = told_from_due task command old.left new.left status due form
  told_or_fault (cut _ _ s) task form = told_from_fault task old.left WriteFault status s tt
  told_or_fault (not_read _ _ _ s) task form = told_from_fault task old.left ReadFault status s tt
  told_or_fault (no_memory _ _ s) task form = told_from_fault task old.left OutOfMemory status s tt

  -- a script is worked on, and a text that is none is refused, unless a fault comes
  pub done_or_fault : Ends command old new status → (task : Task) → task_of command ≡ Some task → IsDoneWithin task old.left status
  done_or_fault (delivered text due _) task form = done_from_due task command old.left new.left status due form
  done_or_fault (cut _ _ s) task form = done_from_fault task old.left WriteFault status s tt
  done_or_fault (not_read _ _ _ s) task form = done_from_fault task old.left ReadFault status s tt
  done_or_fault (no_memory _ _ s) task form = done_from_fault task old.left OutOfMemory status s tt

  pub refused_or_fault : Ends command old new status → (task : Task) → task_of command ≡ Some task → IsRefusedWithin task old.left status
  refused_or_fault (delivered text due _) task form = refused_from_due task command old.left new.left status due form
  refused_or_fault (cut _ _ s) task form = refused_from_fault task old.left WriteFault status s tt
  refused_or_fault (not_read _ _ _ s) task form = refused_from_fault task old.left ReadFault status s tt
  refused_or_fault (no_memory _ _ s) task form = refused_from_fault task old.left OutOfMemory status s tt
