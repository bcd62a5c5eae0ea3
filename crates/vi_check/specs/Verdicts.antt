-- The verdict on a report: what is wrong with the first entry that isn't due and right in its place; else the first
-- call that is left; else where the fault records go wrong.
use Rattle.std.specs.Prelude.{ℕ, ◌+◌, ◌||◌, not, if◌then◌else◌, List, [], ◌∷◌, ◌++◌, length, Option, Some, None, option_map}
use Rattle.std.specs.Option.{option_or}
use Rattle.vi_history.specs.Device.{One}
use Rattle.vi_history.specs.Replies.{Answer, reply}
use Rattle.vi_history.specs.Start.{start}
use Rattle.vi_history.specs.Histories.{answer_of, after}
use Rattle.vi_history.specs.Records.{records}
use Rattle.vi_history.specs.declared.call.Call.{Call}
use Rattle.vi_history.specs.declared.call.Caller.{Caller}
use Rattle.vi_history.specs.declared.entry.Entry.{Entry}
use Rattle.vi_history.specs.declared.outcome.Outcome.{Outcome}
use Rattle.vi_history.specs.declared.outcome.Shown.{Shown}
use Rattle.vi_lines.specs.Value.{ScriptValue}
use Rattle.vi_check.specs.Answers.{same_answer, answered}
use Rattle.vi_check.specs.Due.{call_at, calls_of, is_entered, is_past_fault, is_due, first_due, callers_of}
use Rattle.vi_check.specs.Faults.{bad_faults}
use Rattle.vi_check.specs.declared.verdict.Verdict.{Verdict}
use Rattle.vi_check.specs.declared.verdict.Verdict.TheVariants.{Legal, Wrong, Order, Extra, Missing, Faults}

-- the one-thread device after these entries
abbrev pub device_after : ScriptValue → List Entry → One
device_after s entries = after (start s.setup) (calls_of s entries)

-- an entry of this number whose answer should be this one
abbrev pub wrong_answer : ℕ → Entry → Answer → Option Verdict
wrong_answer number h want = if same_answer (answer_of h) want then None else Some (Wrong number (answered h want) h)

-- What is wrong with an entry behind these, by the call that it is of. It is of none, its call has an entry already, or
-- it is a part after its line's fault: Extra. Its call isn't due: Order. Its answer isn't the reply to its call: Wrong.
abbrev pub finding_by : ScriptValue → List Entry → Entry → Option Call → Option Verdict
finding_by s before h None = Some (Extra (length before + 1))
finding_by s before h (Some c) =
    if is_entered before h.mark.caller h.mark.line h.mark.part || is_past_fault before h.mark.caller h.mark.line h.mark.part then Some (Extra (length before + 1)) else (
    if not (is_due s before h) then Some (Order (length before + 1)) else
    wrong_answer (length before + 1) h (reply (device_after s before) c))

unfoldable pub finding : ScriptValue → List Entry → Entry → Option Verdict
finding s before h = finding_by s before h (call_at s h)

-- what is wrong with the first of the further entries with which something is
abbrev pub first_finding : ScriptValue → List Entry → List Entry → Option Verdict
first_finding s before [] = None
first_finding s before (h ∷ hs) = option_or (finding s before h) (first_finding s (before ++ h ∷ []) hs)

-- the first due call of the first of these callers that has one
abbrev pub first_missing : ScriptValue → List Entry → List Caller → Option Verdict
first_missing s entries [] = None
first_missing s entries (c ∷ cs) =
    option_or (option_map (λ p. Missing c p.line p.part) (first_due s entries c)) (first_missing s entries cs)

-- the fault records of a history
abbrev pub records_of : ScriptValue → List Entry → List Shown
records_of s entries = records (calls_of s entries) entries

-- where nothing is found, the report is legal
abbrev pub or_legal : Option Verdict → Verdict
or_legal None = Legal
or_legal (Some found) = found

unfoldable pub verdict : ScriptValue → Outcome → Verdict
verdict s o =
    or_legal (option_or (first_finding s [] o.entries)
    (option_or (first_missing s o.entries (callers_of s))
    (option_map (λ at. Faults at) (bad_faults s.setup.queue (records_of s o.entries) o))))
