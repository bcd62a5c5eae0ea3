-- What is kept of a history while it is gone through: of each driver which of its lines have an entry, of each back end
-- its next call.
use Rattle.std.specs.Prelude.{◌≡◌, ◌==◌, ℕ, ◌+◌, ◌-◌, ◌^◌, ◌<◌, ◌≤◌, Bool, true, false, not, ◌&&◌, ◌||◌, nat_lt, nat_le, if◌then◌else◌, List, [], ◌∷◌, ◌++◌, length, map, get_or, set, replicate, Option, Some, None}
use Rattle.std.specs.List.{find, list_all, prefix_len, range_with_len}
use Rattle.std.specs.Option.{option_or}
use Rattle.vi_history.specs.Device.{One}
use Rattle.vi_history.specs.Records.{records_at}
use Rattle.vi_history.specs.declared.call.Call.{Call}
use Rattle.vi_history.specs.declared.call.Call.TheVariants as call
use Rattle.vi_history.specs.declared.call.Caller.{Caller}
use Rattle.vi_history.specs.declared.call.Caller.TheVariants.{Driver, Back}
use Rattle.vi_history.specs.declared.entry.Entry.{Entry}
use Rattle.vi_history.specs.declared.outcome.Shown.{Shown}
use Rattle.vi_lines.specs.declared.line.Line.{Line}
use Rattle.vi_lines.specs.Value.{ScriptValue}
use Rattle.vi_lines.specs.Calls.{HasTransfers, lines_of, awaits_of}
use Rattle.vi_lines.specs.Order.{Place, entries_at, batch_of, due_place, place_after}
use Rattle.vi_check.specs.Due.{line_numbers}
use Rattle.vi_check.specs.Verdicts.{device_after, records_of}
use Rattle.vi_check.specs.declared.progress.Next.{Next}
use Rattle.vi_check.specs.declared.verdict.Verdict.{Verdict}
use Rattle.vi_check.specs.declared.verdict.Verdict.TheVariants.{Missing}

-- of each driver, by number, whether its lines have an entry; of each back end, in declared order, its next call
pub record Seen : Type 0 where
  pub drivers : List (List Bool)
  pub backs : List Next

-- nothing has an entry yet
abbrev pub nothing_seen : ScriptValue → Seen
nothing_seen s = record {
  drivers = map (λ number. replicate (length (lines_of s (Driver number))) false) (range_with_len 0 8);
  backs = map (λ e. record { endpoint = e.id; line = 1; part = 1 }) s.setup.endpoints;
}

-- the driver's line has an entry
abbrev pub has_entry : Seen → ℕ → ℕ → Bool
has_entry seen number line = get_or (get_or seen.drivers number []) (line - 1) false

-- the back end's next call; that of an endpoint that wasn't declared is its first
abbrev pub next_in : ℕ → Option Next → Next
next_in endpoint None = record { endpoint = endpoint; line = 1; part = 1 }
next_in endpoint (Some next) = next

abbrev pub next_of : Seen → ℕ → Next
next_of seen endpoint = next_in endpoint (find (λ next. next.endpoint == endpoint) seen.backs)

-- the call stands before the back end's next one
abbrev pub is_before : ℕ → ℕ → Next → Bool
is_before line part next = nat_lt line next.line || ((line == next.line) && nat_lt part next.part)

-- the call has an entry, or is a part after its line's fault
abbrev pub has_passed : Seen → Caller → ℕ → ℕ → Bool
has_passed seen (Driver number) line part = has_entry seen number line
has_passed seen (Back endpoint) line part = is_before line part (next_of seen endpoint)

-- the line's block is whole
abbrev pub has_finished : Seen → Caller → ℕ → Bool
has_finished seen (Driver number) line = has_entry seen number line
has_finished seen (Back endpoint) line = nat_lt line (next_of seen endpoint).line

-- how many of the first lines all have an entry
abbrev pub done_first : List Bool → ℕ
done_first entered = prefix_len (λ e. e) entered

-- the line ends a batch; so does one that isn't there
abbrev pub ends_batch_in : Option Line → Bool
ends_batch_in None = true
ends_batch_in (Some l) = not l.add

-- the call is due
abbrev pub comes_next : ScriptValue → Seen → Caller → ℕ → ℕ → Bool
comes_next s seen (Driver number) line part =
    not (has_entry seen number line)
    && (batch_of s (Driver number) (done_first (get_or seen.drivers number []) + 1) == batch_of s (Driver number) line)
comes_next s seen (Back endpoint) line part = ((next_of seen endpoint).line == line) && ((next_of seen endpoint).part == part)

-- and the blocks of the lines that its line awaits are whole
abbrev pub may_come : ScriptValue → Seen → Caller → ℕ → ℕ → Bool
may_come s seen caller line part =
    comes_next s seen caller line part && list_all (λ a. has_finished seen a.caller a.line) (awaits_of s caller line)

-- the first due call of a caller as what is missing
abbrev pub missing_in : ScriptValue → Seen → Caller → Option Verdict
missing_in s seen (Driver number) =
    if nat_lt (done_first (get_or seen.drivers number [])) (length (lines_of s (Driver number))) then Some (Missing (Driver number) (done_first (get_or seen.drivers number []) + 1) 0) else None
missing_in s seen (Back endpoint) =
    if nat_le (next_of seen endpoint).line (length (lines_of s (Back endpoint))) then Some (Missing (Back endpoint) (next_of seen endpoint).line (next_of seen endpoint).part) else None

abbrev pub first_missing_in : ScriptValue → Seen → List Caller → Option Verdict
first_missing_in s seen [] = None
first_missing_in s seen (c ∷ cs) = option_or (missing_in s seen c) (first_missing_in s seen cs)

-- what is seen of each driver has a place for each of its lines
abbrev pub FitsScript : ScriptValue → Seen → Type 0
FitsScript s seen = (number : ℕ) → length (get_or seen.drivers number []) ≡ length (lines_of s (Driver number))

-- the entry is of a line of the script and has a number of lines and parts that fits
pub record MayEnter (s : ScriptValue) (seen : Seen) (h : Entry) : Type 0 where
  pub transfers : HasTransfers s
  pub fits : FitsScript s seen
  pub first : 1 ≤ h.mark.line
  pub last : h.mark.line ≤ length (lines_of s h.mark.caller)
  pub few_lines : h.mark.line < 2 ^ 32 - 1
  pub few_parts : h.mark.part < 2 ^ 32 - 1

-- a back end's next call at a place
abbrev pub next_at : ℕ → Place → Next
next_at endpoint place = record { endpoint = endpoint; line = place.line; part = place.part }

-- that one in the place of another of the same endpoint
abbrev pub moved_if : Next → Next → Next
moved_if next back = if back.endpoint == next.endpoint then next else back

-- what is seen with one more entry
abbrev pub with_entry_of : ScriptValue → Entry → Seen → Caller → Seen
with_entry_of s h seen (Driver number) =
    record seen { drivers = set seen.drivers number (set (get_or seen.drivers number []) (h.mark.line - 1) true) }
with_entry_of s h seen (Back endpoint) = record seen { backs = map (moved_if (next_at endpoint (place_after s h))) seen.backs }

abbrev pub with_entry : ScriptValue → Entry → Seen → Seen
with_entry s h seen = with_entry_of s h seen h.mark.caller

-- what is seen behind these entries
abbrev pub entered_lines : ScriptValue → List Entry → ℕ → List Bool
entered_lines s before number = map (λ line. nat_lt 0 (entries_at (Driver number) line before)) (line_numbers s (Driver number))

unfoldable pub seen_of : ScriptValue → List Entry → Seen
seen_of s before = record {
  drivers = map (λ number. entered_lines s before number) (range_with_len 0 8);
  backs = map (λ e. next_at e.id (due_place s (Back e.id) before)) s.setup.endpoints;
}

-- the call is an access of an endpoint
abbrev pub IsAccess : Call → Type 0
IsAccess (call.Ask request) = ⊥
IsAccess (call.Raw read write) = ⊥
IsAccess (call.Bypass on) = ⊥
IsAccess (call.Read endpoint part) = Unit {0}
IsAccess (call.Write endpoint part bytes) = Unit {0}

-- with the device and the fault records behind them
pub record Walked : Type 0 where
  pub seen : Seen
  pub one : One
  pub records : List Shown

unfoldable pub walked_of : ScriptValue → List Entry → Walked
walked_of s before = record { seen = seen_of s before; one = device_after s before; records = records_of s before }

-- with one more entry, of this number, which answers the call
abbrev pub with_answer : ScriptValue → ℕ → Entry → Call → Walked → Walked
with_answer s number h c w =
    record { seen = with_entry s h w.seen; one = w.one; records = w.records ++ records_at number h.mark.kind h.mark.code c }
