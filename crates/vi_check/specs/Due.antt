-- Which calls are left behind the entries before, and which of them are due, as tests.
use Rattle.std.specs.Prelude.{◌==◌, ℕ, Bool, ◌&&◌, ◌||◌, nat_lt, nat_le, if◌then◌else◌, List, ◌++◌, length, map, Option, Some, None}
use Rattle.std.specs.List.{find, list_any, list_all, range_with_len, flat_map}
use Rattle.std.specs.Option.{option_to_list}
use Rattle.vi_history.specs.declared.call.Call.{Call}
use Rattle.vi_history.specs.declared.call.Caller.{Caller}
use Rattle.vi_history.specs.declared.call.Caller.TheVariants.{Driver, Back}
use Rattle.vi_history.specs.declared.entry.Entry.{Entry}
use Rattle.vi_history.specs.Kinds.{is_fault}
use Rattle.vi_lines.specs.Value.{ScriptValue}
use Rattle.vi_lines.specs.Calls.{same_caller, lines_of, call_of, awaits_of}
use Rattle.vi_lines.specs.Order.{Place, entries_at, batch_of, due_place, is_whole}

-- the script's call that an entry is of
abbrev pub call_at : ScriptValue → Entry → Option Call
call_at s h = call_of s h.mark.caller h.mark.line h.mark.part

-- the calls of the entries that are of one
abbrev pub calls_of : ScriptValue → List Entry → List Call
calls_of s entries = flat_map (λ h. option_to_list (call_at s h)) entries

-- an entry of this caller's line
abbrev pub is_of : Caller → ℕ → Entry → Bool
is_of caller line h = same_caller h.mark.caller caller && (h.mark.line == line)

-- the call of this caller, line and part has an entry
abbrev pub is_entered : List Entry → Caller → ℕ → ℕ → Bool
is_entered before caller line part = list_any (λ g. is_of caller line g && (g.mark.part == part)) before

-- it is a part after its line's fault
abbrev pub is_past_fault : List Entry → Caller → ℕ → ℕ → Bool
is_past_fault before caller line part = list_any (λ g. is_of caller line g && (is_fault g.mark.kind && nat_lt g.mark.part part)) before

-- the lines of a caller, by their numbers
abbrev pub line_numbers : ScriptValue → Caller → List ℕ
line_numbers s caller = range_with_len 1 (length (lines_of s caller))

-- The call is due: a driver's where its line has no entry and every line of its earlier batches has one; a back
-- end's where it is the next one.
abbrev pub is_next : ScriptValue → List Entry → Caller → ℕ → ℕ → Bool
is_next s before (Driver number) line part =
    (entries_at (Driver number) line before == 0)
    && list_all (λ earlier. nat_le (batch_of s (Driver number) line) (batch_of s (Driver number) earlier) || nat_lt 0 (entries_at (Driver number) earlier before)) (line_numbers s (Driver number))
is_next s before (Back endpoint) line part =
    ((due_place s (Back endpoint) before).line == line) && ((due_place s (Back endpoint) before).part == part)

-- the entry's call is due, and the blocks of the lines that its line awaits are whole
abbrev pub is_due : ScriptValue → List Entry → Entry → Bool
is_due s before h =
    is_next s before h.mark.caller h.mark.line h.mark.part && list_all (λ a. is_whole s before a) (awaits_of s h.mark.caller h.mark.line)

-- the first due call of a caller, if it has one left
abbrev pub first_due : ScriptValue → List Entry → Caller → Option Place
first_due s entries (Driver number) =
    find (λ p. is_next s entries (Driver number) p.line p.part) (map (λ line. record { line = line; part = 0 }) (line_numbers s (Driver number)))
first_due s entries (Back endpoint) =
    if nat_le (due_place s (Back endpoint) entries).line (length (lines_of s (Back endpoint))) then Some (due_place s (Back endpoint) entries) else None

-- the callers of a script: the drivers by number, then the back ends in declared order
abbrev pub callers_of : ScriptValue → List Caller
callers_of s = map (λ number. Driver number) (range_with_len 0 8) ++ map (λ e. Back e.id) s.setup.endpoints
