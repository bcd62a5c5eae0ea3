-- How a call that runs threads ends, from how its text was delivered, and what each status then says.
use Rattle.std.proofs.Common.{◌≡◌, ◌≤◌, ◌<◌, ◌⊎◌, ℕ, true, List, length, Some, None, sym, ◌∙◌, ap, subst, inl, inr, arith}
use Rattle.std.specs.Prelude as std
use Rattle.std.specs.declared.option.Option.{Option}
use Rattle.std.specs.Io.KnownBytes.{Appends, Keeps}
use Rattle.vi_history.specs.Outcomes.{IsWellMade}
use Rattle.vi_history.specs.declared.outcome.Outcome.{Outcome}
use Rattle.vi_lines.specs.Value.{ScriptValue}
use Rattle.vi_script.specs.Texts.{script, Bad}
use Rattle.vi_lines.specs.Legal.{IsLegalHistory, HasRecords}
use Rattle.vi_lines.specs.Ordered.{IsOrdered}
use Rattle.vi_script.specs.declared.fault.BadKind.{BadKind}
use Rattle.vi_model.specs.Worlds.{World}
use Rattle.vi_model.specs.Rounds.{is_finished}
use Rattle.vi_model.specs.Playable.{IsPlayable}
use Rattle.vi_model.specs.Sound.{IsSound}
use Rattle.vi_sound.proofs.Falling.Ended.{finished_is_ordered}
use Rattle.vi_sound.proofs.Falling.Tested.{finished_has_finished}
use Rattle.vi_sound.proofs.Laws.{sound_is_legal}
use Rattle.vi_core.proofs.OutcomeLaws.{outcome_records}
use Rattle.vi_order.proofs.Unmapped.{unmaps_hold}
use Rattle.vi_run.specs.Runs.{FinishedValue, CameTo}
use Rattle.vi_commands.specs.Causes.{Rose}
use Rattle.vi_commands.specs.Output.{TakesProperPrefix}
use Rattle.vi_threaded.specs.Histories.{WritesHistory}
use Rattle.vi_threaded.specs.Running.{ReadsScript, RanTo, Reports, Summarizes, Refuses, IsRunDue, too_long, refused, reports, summarizes, EndsRun, delivered, cut, not_read, no_memory, WritesRun, WritesSummary, IsRunWithin, IsRunRefused, IsRunTooLong}
use Rattle.vi_commands.specs.Status.{bad_script_text}
use Rattle.vi_commands.specs.Top.{Outside, IsFault}
use Rattle.vi_threaded.specs.declared.threaded.Threaded.{Threaded}
use Rattle.vi_threaded.specs.declared.threaded.Threaded.TheVariants.{Run, Load}
use Rattle.vi_commands.specs.declared.status.Status.{Status}
use Rattle.vi_commands.specs.declared.status.Status.TheVariants.{Ok, Usage, BadScript, TooLong, ReadFault, WriteFault, OutOfMemory}
use Rattle.vi_commands.specs.declared.top.TheConstants.{INPUT_LIMIT}

-- the outcome of a finished sound world is what a run of its script comes to
pub ran_to : (s : ScriptValue) (f : FinishedValue) (o : Outcome) → f.last.script ≡ s → CameTo f o → IsWellMade o → RanTo s f o
ran_to s f o is came well =
    let w : World = came.world in
    let play : IsPlayable s = subst IsPlayable is came.run.playable in
    let sound : IsSound s w = subst (λ (t : ScriptValue). IsSound t w) is came.run.sound in
    let ended : is_finished s w ≡ true = subst (λ (t : ScriptValue). is_finished t w ≡ true) is came.run.finished in
    let lawful : IsLegalHistory s o.entries = subst (λ (x : Outcome). IsLegalHistory s x.entries) (sym came.outcome) (sound_is_legal s w sound).0 in
    record {
      script_is = is;
      came = came;
      history = record {
        made = well;
        ordered = subst (λ (x : Outcome). IsOrdered s x.entries) (sym came.outcome) (finished_is_ordered s w play sound (finished_has_finished s w ended));
        legal = lawful;
        records = subst (λ (x : Outcome). HasRecords s x) (sym came.outcome) (outcome_records s w play sound);
        unmapped = unmaps_hold s o.entries lawful;
      };
    }

-- the text that is due is written, or the call ends with a write fault
pub EndsRun-from_deliver : (form : Threaded) (old new : Outside) (run kept : Option FinishedValue) (due written status : Status) (answer : List ℕ) → IsRunDue form old.left new.left run due answer
    → (written ≡ due) ⊎ (written ≡ WriteFault)
    → (written ≡ due → Appends old.taken new.taken answer)
    → (written ≡ WriteFault → TakesProperPrefix old.taken new.taken answer)
    → (written ≡ WriteFault → Rose old.write_faults new.write_faults)
    → status ≡ written → kept ≡ run
    → EndsRun form old new kept status
EndsRun-from_deliver form old new run kept due written status answer is_due either whole prefix rose ended same_run =
    let owed : IsRunDue form old.left new.left kept due answer = subst (λ (r : Option FinishedValue). IsRunDue form old.left new.left r due answer) (sym same_run) is_due in
    elim either [
      | inl same ↦ delivered answer (subst (λ (s : Status). IsRunDue form old.left new.left kept s answer) (sym (ended ∙ same)) owed) (whole same)
      | inr fault ↦ cut (record { due = due; answer = answer; is_due = owed; prefix = prefix fault; rose = rose fault }) (ended ∙ fault)
    ]

-- where a script is refused was written, or there was no memory for it
pub EndsRun-from_refusal : (form : Threaded) (old new : Outside) (kept : Option FinishedValue) (line : ℕ) (kind : BadKind) (written status : Status)
    → IsRunDue form old.left new.left None (BadScript line kind) (bad_script_text line kind)
    → (written ≡ BadScript line kind) ⊎ ((written ≡ WriteFault) ⊎ (written ≡ OutOfMemory))
    → (written ≡ BadScript line kind → Appends old.taken new.taken (bad_script_text line kind))
    → (written ≡ WriteFault → TakesProperPrefix old.taken new.taken (bad_script_text line kind))
    → (written ≡ OutOfMemory → Keeps old.taken new.taken)
    → (written ≡ WriteFault → Rose old.write_faults new.write_faults)
    → status ≡ written → kept ≡ None
    → EndsRun form old new kept status
EndsRun-from_refusal form old new kept line kind written status is_due either whole prefix nothing rose ended no_run = elim either [
  | inl same ↦ EndsRun-from_deliver form old new None kept (BadScript line kind) written status (bad_script_text line kind) is_due (inl same) whole prefix rose ended no_run
  | inr other ↦ elim other [
    | inl fault ↦ EndsRun-from_deliver form old new None kept (BadScript line kind) written status (bad_script_text line kind) is_due (inr fault) whole prefix rose ended no_run
    | inr wanting ↦ no_memory (nothing wanting) no_run (ended ∙ wanting)
  ]
]

-- ---- what each status says

IsFault-at : (fault status : Status) → status ≡ fault → IsFault fault → IsFault status
IsFault-at fault status is f = subst IsFault (sym is) f

-- `load` reads nothing
no_script : (form : Threaded) (rounds workers : ℕ) → form ≡ Load rounds workers → ReadsScript form → ⊥
no_script form rounds workers is reads = subst ReadsScript is reads

module _ (form : Threaded) (old new : Outside) (run : Option FinishedValue) (status : Status) where
  -- with Ok, a form that reads a script wrote the text of its run
  pub run_written : EndsRun form old new run status → ReadsScript form → status ≡ Ok → WritesRun form old new run
  run_written (delivered answer (too_long _ _ _ s _) _) reads ok = absurd (cc (s, ok))
  run_written (delivered answer (refused _ r _ _) _) reads ok = absurd (cc (r.status_is, ok))
  run_written (delivered answer (reports _ r _) took) reads ok = record { answer = answer; reports = r; took = took }
  run_written (delivered answer (summarizes rounds workers is _ _) _) reads ok = absurd (no_script form rounds workers is reads)
  run_written (cut _ s) reads ok = absurd (cc (s, ok))
  run_written (not_read _ _ _ _ s) reads ok = absurd (cc (s, ok))
  run_written (no_memory _ _ s) reads ok = absurd (cc (s, ok))

  -- and `load N W` its summary
  pub summary_written : EndsRun form old new run status → (rounds workers : ℕ) → form ≡ Load rounds workers → status ≡ Ok → WritesSummary rounds old new run
  summary_written (delivered answer (too_long reads _ _ _ _) _) rounds workers is ok = absurd (no_script form rounds workers is reads)
  summary_written (delivered answer (refused reads _ _ _) _) rounds workers is ok = absurd (no_script form rounds workers is reads)
  summary_written (delivered answer (reports reads _ _) _) rounds workers is ok = absurd (no_script form rounds workers is reads)
  summary_written (delivered answer (summarizes others _ f d _) took) rounds workers is ok =
      let same : others ≡ rounds = cc (f, is) in
      record { answer = answer; summarizes = subst (λ (n : ℕ). Summarizes n run answer) same d; took = took }
  summary_written (cut _ s) rounds workers is ok = absurd (cc (s, ok))
  summary_written (not_read _ _ _ _ s) rounds workers is ok = absurd (cc (s, ok))
  summary_written (no_memory _ _ s) rounds workers is ok = absurd (cc (s, ok))

  pub summary_or_fault : EndsRun form old new run status → (rounds workers : ℕ) → form ≡ Load rounds workers → (status ≡ Ok) ⊎ IsFault status
  summary_or_fault (delivered answer (too_long reads _ _ _ _) _) rounds workers is = absurd (no_script form rounds workers is reads)
  summary_or_fault (delivered answer (refused reads _ _ _) _) rounds workers is = absurd (no_script form rounds workers is reads)
  summary_or_fault (delivered answer (reports reads _ _) _) rounds workers is = absurd (no_script form rounds workers is reads)
  summary_or_fault (delivered answer (summarizes _ _ _ _ s) _) rounds workers is = inl s
  summary_or_fault (cut _ s) rounds workers is = inr (IsFault-at WriteFault status s tt)
  summary_or_fault (not_read _ _ _ _ s) rounds workers is = inr (IsFault-at ReadFault status s tt)
  summary_or_fault (no_memory _ _ s) rounds workers is = inr (IsFault-at OutOfMemory status s tt)

  -- the words were a form
  pub no_usage : EndsRun form old new run status → status ≡ Usage → ⊥
  no_usage (delivered answer (too_long _ _ _ s _) _) is = absurd (cc (s, is))
  no_usage (delivered answer (refused _ r _ _) _) is = absurd (cc (r.status_is, is))
  no_usage (delivered answer (reports _ _ s) _) is = absurd (cc (s, is))
  no_usage (delivered answer (summarizes _ _ _ _ s) _) is = absurd (cc (s, is))
  no_usage (cut _ s) is = absurd (cc (s, is))
  no_usage (not_read _ _ _ _ s) is = absurd (cc (s, is))
  no_usage (no_memory _ _ s) is = absurd (cc (s, is))

-- what a run's report says without the run
pub history_written : (workers : ℕ) (old new : Outside) (run : Option FinishedValue) → WritesRun (Run workers) old new run → WritesHistory old.left new.left old.taken new.taken
history_written workers old new run w = record {
  input = w.reports.input;
  read = w.reports.read;
  within = w.reports.within;
  s = w.reports.s;
  is_script = w.reports.is_script;
  outcome = w.reports.of_run.outcome;
  history = w.reports.of_run.ran.history;
  typed = w.reports.of_run.typed;
  took = subst (λ (bytes : List ℕ). Appends old.taken new.taken bytes) w.reports.of_run.report w.took;
}

-- ---- where the source tells what is left

told_report : {form : Threaded} {new : Option (List ℕ)} {run : Option FinishedValue} {answer : List ℕ} (left : List ℕ) (r : Reports form (Some left) new run answer) → r.input ≡ left
told_report left r = r.read.0

told_refusal : {new : Option (List ℕ)} {status : Status} (left : List ℕ) (r : Refuses (Some left) new status) → r.input ≡ left
told_refusal left r = r.read.0

module _ (form : Threaded) (reads : ReadsScript form) (input : List ℕ) (new : Option (List ℕ)) (run : Option FinishedValue) (status : Status) where
  due_run : {answer : List ℕ} → IsRunDue form (Some input) new run status answer → length input ≤ INPUT_LIMIT → (s : ScriptValue) → script input ≡ std.Ok s → (status ≡ Ok) ⊎ IsFault status
  due_run (too_long _ past _ _ _) within s read = absurd (omega (arith, past, within))
  due_run (refused _ r _ _) within s read =
      let other : script input ≡ std.Err r.bad = subst (λ (i : List ℕ). script i ≡ std.Err r.bad) (told_refusal input r) r.refused in
      absurd (cc (other, read))
  due_run (reports _ _ st) within s read = inl st
  due_run (summarizes rounds workers is _ _) within s read = absurd (no_script form rounds workers is reads)

  due_refusal : {answer : List ℕ} → IsRunDue form (Some input) new run status answer → length input ≤ INPUT_LIMIT → (bad : Bad) → script input ≡ std.Err bad
      → (status ≡ BadScript bad.line bad.kind) ⊎ IsFault status
  due_refusal (too_long _ past _ _ _) within bad read = absurd (omega (arith, past, within))
  due_refusal (refused _ r _ _) within bad read =
      let here : script input ≡ std.Err r.bad = subst (λ (i : List ℕ). script i ≡ std.Err r.bad) (told_refusal input r) r.refused in
      let same : r.bad ≡ bad = cc (here, read) in
      inl (r.status_is ∙ ap (λ (b : Bad). BadScript b.line b.kind) same)
  due_refusal (reports _ r _) within bad read =
      let other : script input ≡ std.Ok r.s = subst (λ (i : List ℕ). script i ≡ std.Ok r.s) (told_report input r) r.is_script in
      absurd (cc (other, read))
  due_refusal (summarizes rounds workers is _ _) within bad read = absurd (no_script form rounds workers is reads)

  due_long : {answer : List ℕ} → IsRunDue form (Some input) new run status answer → INPUT_LIMIT < length input → (status ≡ TooLong) ⊎ IsFault status
  due_long (too_long _ _ _ st _) past = inl st
  due_long (refused _ r _ _) past = absurd (omega (arith, past, r.within, ap length (told_refusal input r)))
  due_long (reports _ r _) past = absurd (omega (arith, past, r.within, ap length (told_report input r)))
  due_long (summarizes rounds workers is _ _) past = absurd (no_script form rounds workers is reads)

run_from_due : (form : Threaded) → ReadsScript form → (left new : Option (List ℕ)) (run : Option FinishedValue) (status : Status) {answer : List ℕ} → IsRunDue form left new run status answer → IsRunWithin left status
run_from_due form reads None new run status due = tt
run_from_due form reads (Some input) new run status due = due_run form reads input new run status due

refusal_from_due : (form : Threaded) → ReadsScript form → (left new : Option (List ℕ)) (run : Option FinishedValue) (status : Status) {answer : List ℕ} → IsRunDue form left new run status answer → IsRunRefused left status
refusal_from_due form reads None new run status due = tt
refusal_from_due form reads (Some input) new run status due = due_refusal form reads input new run status due

long_from_due : (form : Threaded) → ReadsScript form → (left new : Option (List ℕ)) (run : Option FinishedValue) (status : Status) {answer : List ℕ} → IsRunDue form left new run status answer → IsRunTooLong left status
long_from_due form reads None new run status due = tt
long_from_due form reads (Some input) new run status due = due_long form reads input new run status due

run_from_fault : (left : Option (List ℕ)) (status : Status) → IsFault status → IsRunWithin left status
run_from_fault None status f = tt
run_from_fault (Some input) status f = λ within s read. inr f

refusal_from_fault : (left : Option (List ℕ)) (status : Status) → IsFault status → IsRunRefused left status
refusal_from_fault None status f = tt
refusal_from_fault (Some input) status f = λ within bad read. inr f

long_from_fault : (left : Option (List ℕ)) (status : Status) → IsFault status → IsRunTooLong left status
long_from_fault None status f = tt
long_from_fault (Some input) status f = λ past. inr f

module _ (form : Threaded) (old new : Outside) (run : Option FinishedValue) (status : Status) where
  -- a script is run, and a text that is none is refused, unless a fault comes
  pub run_or_fault : EndsRun form old new run status → ReadsScript form → IsRunWithin old.left status
  run_or_fault (delivered answer due _) reads = run_from_due form reads old.left new.left run status due
  run_or_fault (cut _ s) reads = run_from_fault old.left status (IsFault-at WriteFault status s tt)
  run_or_fault (not_read _ _ _ _ s) reads = run_from_fault old.left status (IsFault-at ReadFault status s tt)
  run_or_fault (no_memory _ _ s) reads = run_from_fault old.left status (IsFault-at OutOfMemory status s tt)

  pub refusal_or_fault : EndsRun form old new run status → ReadsScript form → IsRunRefused old.left status
  refusal_or_fault (delivered answer due _) reads = refusal_from_due form reads old.left new.left run status due
  refusal_or_fault (cut _ s) reads = refusal_from_fault old.left status (IsFault-at WriteFault status s tt)
  refusal_or_fault (not_read _ _ _ _ s) reads = refusal_from_fault old.left status (IsFault-at ReadFault status s tt)
  refusal_or_fault (no_memory _ _ s) reads = refusal_from_fault old.left status (IsFault-at OutOfMemory status s tt)

  -- and a longer input is too long
  pub long_or_fault : EndsRun form old new run status → ReadsScript form → IsRunTooLong old.left status
  long_or_fault (delivered answer due _) reads = long_from_due form reads old.left new.left run status due
  long_or_fault (cut _ s) reads = long_from_fault old.left status (IsFault-at WriteFault status s tt)
  long_or_fault (not_read _ _ _ _ s) reads = long_from_fault old.left status (IsFault-at ReadFault status s tt)
  long_or_fault (no_memory _ _ s) reads = long_from_fault old.left status (IsFault-at OutOfMemory status s tt)
