-- What the answers of a command come to.
use Rattle.std.proofs.Common.{◌≡◌, ℕ, List, Ok, Err, Result, IfOk, OnOk, ◌∙◌, ap, sym, refl}
use Rattle.std.specs.Prelude as std
use Rattle.std.specs.declared.alloc.AllocError.{AllocError}
use Rattle.vi_check.specs.Verdicts.{verdict}
use Rattle.vi_check.specs.Texts.{verdict_text}
use Rattle.vi_check.specs.declared.verdict.Verdict.{Verdict}
use Rattle.vi_check.specs.declared.verdict.Verdict.TheVariants as verdicts
use Rattle.vi_history.specs.Outcomes.{IsWellMade}
use Rattle.vi_history.specs.declared.outcome.Outcome.{Outcome}
use Rattle.vi_report.specs.Reading.{read_report}
use Rattle.vi_report.specs.Texts.{text}
use Rattle.vi_report.specs.Types.{IsTyped}
use Rattle.vi_lines.specs.Value.{ScriptValue}
use Rattle.vi_script.specs.Texts.{Bad}
use Rattle.vi_lines.specs.Legal.{IsLegalHistory, HasRecords}
use Rattle.vi_lines.specs.Ordered.{IsOrdered}
use Rattle.vi_sim.specs.Simulated.{simulated}
use Rattle.vi_trace.specs.Traces.{trace}
use Rattle.vi_commands.specs.Accepted.{accepts}
use Rattle.vi_commands.specs.Judged.{judged_report}
use Rattle.vi_commands.specs.OneThread.{one_thread}
use Rattle.vi_commands.specs.Status.{status_text}
use Rattle.vi_commands.specs.Top.{verdict_status}
use Rattle.vi_commands.specs.Work.{Judges, Answers, sims, replies, bad_report, legal, wrong, Does, took, refused, TellsOf, no_trace}
use Rattle.vi_commands.specs.declared.command.Task.{Task}
use Rattle.vi_commands.specs.declared.command.Task.TheVariants.{Sim, One, Check}
use Rattle.vi_commands.specs.declared.command.TextTask.{TextTask}
use Rattle.vi_commands.specs.declared.command.TextTask.TheVariants.{Trace}
use Rattle.vi_commands.specs.declared.work.Answer.{Answer}
use Rattle.vi_commands.specs.declared.status.Status.TheVariants as status

-- a text that is no script is refused
pub does-refused : (task : Task) (input : List ℕ) (bad : Bad) (r : Result Answer AllocError) → accepts task input ≡ std.Err bad
    → IfOk r (λ a. a.status ≡ status.BadScript bad.line bad.kind) → IfOk r (λ a. a.text ≡ status_text (status.BadScript bad.line bad.kind))
    → IfOk r (λ a. Does task input a.status a.text)
does-refused task input bad (Ok a) is st words = refused bad is st (words ∙ ap status_text (sym st))
does-refused task input bad (Err e) is st words = tt

-- what comes of the script that was taken
pub does-took : (task : Task) (input : List ℕ) (s : ScriptValue) (r : Result Answer AllocError) → accepts task input ≡ std.Ok s
    → IfOk r (λ a. Answers task input s a.status a.text) → IfOk r (λ a. Does task input a.status a.text)
does-took task input s (Ok a) is answers = took s is answers
does-took task input s (Err e) is answers = tt

-- the report of a run
pub answers-sims : (input : List ℕ) (s : ScriptValue) (generator_seed moves : ℕ) (o : Outcome) (r : Result Answer AllocError) → o ≡ simulated s generator_seed moves → IsWellMade o
    → IsOrdered s (simulated s generator_seed moves).entries → IsLegalHistory s (simulated s generator_seed moves).entries → HasRecords s (simulated s generator_seed moves)
    → IfOk r (λ a. a.status ≡ status.Ok) → IfOk r (λ a. a.text ≡ text o) → OnOk r (IsTyped o) → IfOk r (λ a. Answers (Sim generator_seed moves) input s a.status a.text)
answers-sims input s generator_seed moves o (Ok a) is made in_order answers shown st words typed =
    sims generator_seed moves refl (record { made = rw (← is) made; typed = rw (← is) typed; report = words ∙ ap text is; ordered = in_order; legal = answers; records = shown }) st
answers-sims input s generator_seed moves o (Err e) is made in_order answers shown st words typed = tt

-- the report of the replies
pub answers-replies : (input : List ℕ) (s : ScriptValue) (o : Outcome) (r : Result Answer AllocError) → o ≡ one_thread s → IsWellMade o
    → IfOk r (λ a. a.status ≡ status.Ok) → IfOk r (λ a. a.text ≡ text o) → OnOk r (IsTyped o) → IfOk r (λ a. Answers One input s a.status a.text)
answers-replies input s o (Ok a) is made st words typed =
    replies refl (record { made = rw (← is) made; typed = rw (← is) typed; report = words ∙ ap text is }) st
answers-replies input s o (Err e) is made st words typed = tt

-- a report that is refused
pub answers-bad_report : (input : List ℕ) (s : ScriptValue) (line : ℕ) (r : Result Answer AllocError) → read_report (judged_report input) ≡ std.Err line
    → IfOk r (λ a. a.status ≡ status.BadReport line) → IfOk r (λ a. a.text ≡ status_text (status.BadReport line)) → IfOk r (λ a. Answers Check input s a.status a.text)
answers-bad_report input s line (Ok a) is st words = bad_report refl line is st (words ∙ ap status_text (sym st))
answers-bad_report input s line (Err e) is st words = tt

abbrev judged : (input : List ℕ) (s : ScriptValue) (o : Outcome) (answer : List ℕ) → read_report (judged_report input) ≡ std.Ok o → IsWellMade o → answer ≡ verdict_text (verdict s o) → Judges s input answer
judged input s o answer is made words = record { outcome = o; is_report = is; made = made; words = words }

by_verdict : (input : List ℕ) (s : ScriptValue) (o : Outcome) (a : Answer) → read_report (judged_report input) ≡ std.Ok o → IsWellMade o → a.text ≡ verdict_text (verdict s o)
    → (v : Verdict) → verdict s o ≡ v → a.status ≡ verdict_status v → Answers Check input s a.status a.text
by_verdict input s o a is made words verdicts.Legal v st = legal refl (judged input s o a.text is made words) v st
by_verdict input s o a is made words (verdicts.Wrong entry want got) v st = wrong refl (judged input s o a.text is made words) (λ same. absurd (cc (v, same))) st
by_verdict input s o a is made words (verdicts.Order entry) v st = wrong refl (judged input s o a.text is made words) (λ same. absurd (cc (v, same))) st
by_verdict input s o a is made words (verdicts.Extra entry) v st = wrong refl (judged input s o a.text is made words) (λ same. absurd (cc (v, same))) st
by_verdict input s o a is made words (verdicts.Missing caller line part) v st = wrong refl (judged input s o a.text is made words) (λ same. absurd (cc (v, same))) st
by_verdict input s o a is made words (verdicts.Faults at) v st = wrong refl (judged input s o a.text is made words) (λ same. absurd (cc (v, same))) st

-- the verdict on a report that was read
pub answers-verdict : (input : List ℕ) (s : ScriptValue) (o : Outcome) (r : Result Answer AllocError) → read_report (judged_report input) ≡ std.Ok o → IsWellMade o
    → IfOk r (λ a. a.status ≡ verdict_status (verdict s o)) → IfOk r (λ a. a.text ≡ verdict_text (verdict s o)) → IfOk r (λ a. Answers Check input s a.status a.text)
answers-verdict input s o (Ok a) is made st words = by_verdict input s o a is made words (verdict s o) refl st
answers-verdict input s o (Err e) is made st words = tt

-- a text that is no trace is refused
pub tells-no_trace : (input : List ℕ) (line : ℕ) (r : Result Answer AllocError) → trace input ≡ std.Err line
    → IfOk r (λ a. a.status ≡ status.BadTrace line) → IfOk r (λ a. a.text ≡ status_text (status.BadTrace line)) → IfOk r (λ a. TellsOf Trace input a.status a.text)
tells-no_trace input line (Ok a) is st words = no_trace refl line is st (words ∙ ap status_text (sym st))
tells-no_trace input line (Err e) is st words = tt

-- there is one task only
pub tells-trace : (task : TextTask) (input : List ℕ) (r : Result Answer AllocError) → IfOk r (λ a. TellsOf Trace input a.status a.text) → IfOk r (λ a. TellsOf task input a.status a.text)
tells-trace Trace input r tells = tells
