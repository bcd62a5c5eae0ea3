-- What the command `one` answers to a script: the reply of the one-thread device to each line in the order of the text,
-- a transfer's parts up to the first that faults, and the record of every fault.
use Rattle.std.specs.Prelude.{ℕ, zero, suc, ◌+◌, Bool, true, if◌then◌else◌, List, [], ◌∷◌, ◌++◌, length, Option, Some, None}
use Rattle.vi_history.specs.Device.{One}
use Rattle.vi_history.specs.Kinds.{is_fault}
use Rattle.vi_history.specs.Records.{records_at}
use Rattle.vi_history.specs.Replies.{Answer, reply, next}
use Rattle.vi_history.specs.Start.{start}
use Rattle.vi_history.specs.declared.call.Call.{Call}
use Rattle.vi_history.specs.declared.call.Caller.{Caller}
use Rattle.vi_history.specs.declared.call.Caller.TheVariants.{Driver, Back}
use Rattle.vi_history.specs.declared.entry.Entry.{Entry}
use Rattle.vi_history.specs.declared.outcome.Outcome.{Outcome}
use Rattle.vi_history.specs.declared.outcome.Shown.{Shown}
use Rattle.vi_history.specs.declared.setup.Setup.{Setup}
use Rattle.vi_lines.specs.declared.line.Line.{Line}
use Rattle.vi_lines.specs.Value.{ScriptValue}
use Rattle.vi_lines.specs.Calls.{call_in, parts_of}
use Rattle.vi_lines.specs.Rules.{count_lines}

-- the device with its memory, and the entries and records of what was replied so far
pub record Replied : Type 0 where
  pub one : One
  pub entries : List Entry
  pub shown : List Shown

-- before the first call
abbrev pub nothing_replied : Setup → Replied
nothing_replied setup = record { one = start setup; entries = []; shown = [] }

-- the entry of this answer
abbrev pub entry_for : Caller → ℕ → ℕ → Answer → Entry
entry_for caller line part answer =
    record { mark = record { caller = caller; line = line; part = part; kind = answer.kind; code = answer.code }; bytes = answer.bytes }

-- a call is replied to, and where it faults its record is shown
abbrev pub with_reply : Replied → Caller → ℕ → ℕ → Call → Replied
with_reply done caller line part c = record {
  one = next done.one c;
  entries = done.entries ++ entry_for caller line part (reply done.one c) ∷ [];
  shown = done.shown ++ records_at (length done.entries + 1) (reply done.one c).kind (reply done.one c).code c;
}

-- so is a call that there is
abbrev pub with_call : Replied → Caller → ℕ → ℕ → Option Call → Replied
with_call done caller line part None = done
with_call done caller line part (Some c) = with_reply done caller line part c

-- this part of a line, which is its caller's line of this number
abbrev pub with_part : Replied → Line → ℕ → ℕ → Replied
with_part done l number part = with_call done l.caller number part (call_in l.caller part (Some l))

-- the call isn't there, or faults
abbrev pub stops : One → Option Call → Bool
stops one None = true
stops one (Some c) = is_fault (reply one c).kind

-- so many parts of a line, from this one on, up to the first that faults
abbrev pub with_parts : Replied → Line → ℕ → ℕ → ℕ → Replied
with_parts done l number part zero = done
with_parts done l number part (suc more) =
    if stops done.one (call_in l.caller part (Some l)) then with_part done l number part else
    with_parts (with_part done l number part) l number (part + 1) more

-- a whole line: a driver's one request, a back end's transfer
abbrev pub with_line_of : Caller → Replied → Line → ℕ → Replied
with_line_of (Driver driver) done l number = with_part done l number 0
with_line_of (Back endpoint) done l number = with_parts done l number 1 (parts_of l.job)

abbrev pub with_line : Replied → Line → ℕ → Replied
with_line done l number = with_line_of l.caller done l number

-- the lines below those above, each numbered among the lines of its caller
abbrev pub with_lines : Replied → List Line → List Line → Replied
with_lines done above [] = done
with_lines done above (l ∷ ls) = with_lines (with_line done l (count_lines above l.caller + 1)) (above ++ l ∷ []) ls

-- all records were shown
abbrev pub outcome_of : Replied → Outcome
outcome_of done = record { entries = done.entries; shown = done.shown; dropped = 0 }

-- the outcome of a script on the one-thread device
unfoldable pub one_thread : ScriptValue → Outcome
one_thread s = outcome_of (with_lines (nothing_replied s.setup) [] s.lines)
