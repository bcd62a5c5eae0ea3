-- The calls of a script: of each caller its lines, and of a transfer its parts.
use Rattle.std.specs.Prelude.{◌==◌, ℕ, zero, suc, Bool, false, ◌&&◌, nat_le, if◌then◌else◌, List, [], length, take, drop, filter, Option, Some, None, All, slice_get}
use Rattle.vi_bytes.specs.Parts.{IsTransfer, part_count, part_start, nth_part}
use Rattle.vi_history.specs.declared.call.Call.{Call}
use Rattle.vi_history.specs.declared.call.Call.TheVariants as call
use Rattle.vi_history.specs.declared.call.Caller.{Caller}
use Rattle.vi_history.specs.declared.call.Caller.TheVariants.{Driver, Back}
use Rattle.vi_lines.specs.declared.job.Job.{Job}
use Rattle.vi_lines.specs.declared.job.Job.TheVariants.{Ask, Raw, Bypass, Read, Write}
use Rattle.vi_lines.specs.declared.line.Line.{Line}
use Rattle.vi_lines.specs.declared.line.Await.{Await}
use Rattle.vi_lines.specs.Value.{ScriptValue}

-- whether two callers are one
abbrev pub same_caller : Caller → Caller → Bool
same_caller (Driver i) (Driver j) = i == j
same_caller (Driver i) (Back e) = false
same_caller (Back e) (Driver i) = false
same_caller (Back e) (Back f) = e == f

-- the lines of a caller, in the script's order
abbrev pub lines_of : ScriptValue → Caller → List Line
lines_of s caller = filter (λ l. same_caller l.caller caller) s.lines

-- the caller's line of this number, counted from 1
abbrev pub line_of : ScriptValue → Caller → ℕ → Option Line
line_of s caller zero = None
line_of s caller (suc before) = slice_get (lines_of s caller) before

-- how many parts a line has: those of its transfer; a driver's line has the one part 0
abbrev pub parts_of : Job → ℕ
parts_of (Ask request) = 0
parts_of (Raw read write) = 0
parts_of (Bypass on) = 0
parts_of (Read iova len) = part_count iova len
parts_of (Write iova bytes) = part_count iova (length bytes)

-- a transfer that the job is has 1 to 65536 bytes, the last at 2^64 - 1 or below
abbrev pub TransfersWell : Job → Type 0
TransfersWell (Ask request) = Unit {0}
TransfersWell (Raw read write) = Unit {0}
TransfersWell (Bypass on) = Unit {0}
TransfersWell (Read iova len) = IsTransfer iova len
TransfersWell (Write iova bytes) = IsTransfer iova (length bytes)

-- so do the transfers of all lines
abbrev pub HasTransfers : ScriptValue → Type 0
HasTransfers s = All (λ l. TransfersWell l.job) s.lines

-- the bytes of a write that belong to its k-th part
abbrev pub part_bytes : ℕ → List ℕ → ℕ → List ℕ
part_bytes iova bytes k = take (nth_part iova (length bytes) k).len (drop (part_start iova k) bytes)

-- the call of a driver's line, its one part
abbrev pub driver_call : Job → Option Call
driver_call (Ask request) = Some (call.Ask request)
driver_call (Raw read write) = Some (call.Raw read write)
driver_call (Bypass on) = Some (call.Bypass on)
driver_call (Read iova len) = None
driver_call (Write iova bytes) = None

-- the k-th access of an endpoint's line
abbrev pub back_call : ℕ → Job → ℕ → Option Call
back_call endpoint (Ask request) k = None
back_call endpoint (Raw read write) k = None
back_call endpoint (Bypass on) k = None
back_call endpoint (Read iova len) k = Some (call.Read endpoint (nth_part iova len k))
back_call endpoint (Write iova bytes) k = Some (call.Write endpoint (nth_part iova (length bytes) k) (part_bytes iova bytes k))

-- the call of a line's part: 0 for a driver, 1 up to the number of parts for a back end
abbrev pub call_in : Caller → ℕ → Option Line → Option Call
call_in caller part None = None
call_in (Driver number) part (Some l) = if part == 0 then driver_call l.job else None
call_in (Back endpoint) part (Some l) = if nat_le 1 part && nat_le part (parts_of l.job) then back_call endpoint l.job part else None

-- the script's call for this caller, line and part, if there is one
unfoldable pub call_of : ScriptValue → Caller → ℕ → ℕ → Option Call
call_of s caller line part = call_in caller part (line_of s caller line)

-- the lines that a line awaits
abbrev pub awaits_in : Option Line → List Await
awaits_in None = []
awaits_in (Some l) = l.awaits

abbrev pub awaits_of : ScriptValue → Caller → ℕ → List Await
awaits_of s caller line = awaits_in (line_of s caller line)

-- how many parts the caller's line of this number has
abbrev pub parts_in : Option Line → ℕ
parts_in None = 0
parts_in (Some l) = parts_of l.job

abbrev pub part_count_of : ScriptValue → Caller → ℕ → ℕ
part_count_of s caller line = parts_in (line_of s caller line)
