-- A driver as contracts see it.
use Rattle.std.specs.Prelude.{◌≡◌, ◌==◌, ℕ, ◌+◌, ◌-◌, ◌^◌, ◌<◌, ◌≤◌, Bool, true, not, ◌&&◌, nat_le, List, take, length, count_by, All, Option, Some, None, slice_get}
use Rattle.std.specs.List.{list_all}
use Rattle.vi_lines.specs.declared.line.Line.{Line}
use Rattle.vi_history.specs.declared.call.Caller.TheVariants.{Driver}
use Rattle.vi_lines.specs.Value.{ScriptValue}
use Rattle.vi_lines.specs.Calls.{lines_of}
use Rattle.vi_model.specs.Drivers.{Stand, Parcel, parcel_of, other_lines}

-- its number, its own lines in the script's order, and how far it is
pub record OwnDriver : Type 0 where
  pub number : ℕ
  pub lines : List Line
  pub stand : Stand

-- the script's driver of this number, so far
abbrev pub own_driver : ScriptValue → ℕ → Stand → OwnDriver
own_driver s driver d = record { number = driver; lines = lines_of s (Driver driver); stand = d }

-- A driver's lines fall into batches: a line that isn't an `add` line, with the `add` lines directly before it. A
-- line's batch, counted from 0, is the number of lines before it that end one.
abbrev pub batch_in : List Line → ℕ → ℕ
batch_in lines line = count_by (λ l. not l.add) (take (line - 1) lines)

-- these lines are all in the batch of the next one, where so many are submitted
abbrev pub are_in_batch : List Line → ℕ → List ℕ → Bool
are_in_batch lines submitted open_lines = list_all (λ line. batch_in lines line == batch_in lines (submitted + 1)) open_lines

-- every open line is in the batch of the next one
abbrev pub continues_batch : OwnDriver → Bool
continues_batch d = are_in_batch d.lines d.stand.submitted d.stand.open_lines

-- the next line to submit, None where no line is left
abbrev pub next_line : OwnDriver → Option Line
next_line d = slice_get d.lines d.stand.submitted

-- what a line leaves for the device
abbrev pub parcel_in : Option Line → Option Parcel
parcel_in None = None
parcel_in (Some l) = parcel_of l.job

abbrev pub next_parcel : OwnDriver → Option Parcel
next_parcel d = parcel_in (next_line d)

-- some line is open
abbrev pub is_open : Stand → Bool
is_open d = not (length d.open_lines == 0)

-- all its lines are submitted, and none of them is open
abbrev pub is_finished : OwnDriver → Bool
is_finished d = nat_le (length d.lines) d.stand.submitted && not (is_open d.stand)

-- the line is open no longer
abbrev pub closed : ℕ → Stand → Stand
closed line d = record d { open_lines = other_lines line d.open_lines }

-- the line is one of so many that are submitted
pub record IsSubmitted (submitted line : ℕ) : Type 0 where
  pub first : 1 ≤ line
  pub last : line ≤ submitted

-- open lines are submitted, submitted lines are the driver's, and their numbers have 32 bits
pub record IsDriver (d : OwnDriver) : Type 0 where
  pub open_each : All (IsSubmitted d.stand.submitted) d.stand.open_lines
  pub submitted : d.stand.submitted ≤ length d.lines
  pub few : length d.lines < 2 ^ 32

-- The next line can be submitted: there is one, fewer than 8 lines are open, and they are all of its batch. A valid
-- script has at most 8 lines that can be open at once, so that where a line of a batch is left, fewer are open.
pub record MaySubmit (d : OwnDriver) : Type 0 where
  pub left : d.stand.submitted < length d.lines
  pub room : length d.stand.open_lines < 8
  pub one_batch : continues_batch d ≡ true
