-- A driver's turn: it collects what is answered, and submits its next line.
use Rattle.std.specs.Prelude.{◌==◌, ℕ, ◌+◌, ◌-◌, Bool, not, ◌&&◌, nat_lt, min, if◌then◌else◌, List, [], ◌∷◌, ◌++◌, Option, Some, None, filter}
use Rattle.std.specs.List.{list_all}
use Rattle.vi_history.specs.Requests.{request_bytes, writable_size}
use Rattle.vi_history.specs.declared.call.Caller.TheVariants.{Driver}
use Rattle.vi_req.specs.Requests.{type_of}
use Rattle.vi_lines.specs.declared.job.Job.{Job}
use Rattle.vi_lines.specs.declared.job.Job.TheVariants as job
use Rattle.vi_lines.specs.declared.line.Line.{Line}
use Rattle.vi_lines.specs.Value.{ScriptValue}
use Rattle.vi_lines.specs.Calls.{line_of}
use Rattle.vi_lines.specs.Order.{batch_of}
use Rattle.vi_model.specs.Control.{Answered, Port, Control, port_of, with_port}
use Rattle.vi_model.specs.Posted.{all_posted}

-- how far a driver is: how many of its lines it has submitted, and which of them it has not collected yet, rising
pub record Stand : Type 0 where
  pub submitted : ℕ
  pub open_lines : List ℕ

abbrev pub no_stand : Stand
no_stand = record { submitted = 0; open_lines = [] }

pub record Driven : Type 0 where
  pub control : Control
  pub stand : Stand

-- how many of its first lines are all finished
abbrev pub finished_first : List ℕ → ℕ → ℕ
finished_first [] submitted = submitted
finished_first (line ∷ lines) submitted = min (line - 1) (finished_first lines submitted)

-- the answered line of the lowest number
abbrev pub lower : Answered → Option Answered → Answered
lower a None = a
lower a (Some b) = if nat_lt b.line a.line then b else a

abbrev pub first_answer : List Answered → Option Answered
first_answer [] = None
first_answer (a ∷ rest) = Some (lower a (first_answer rest))

-- the answers to other lines, and the other lines
abbrev pub other_answers : ℕ → List Answered → List Answered
other_answers line answers = filter (λ a. not (a.line == line)) answers

abbrev pub other_lines : ℕ → List ℕ → List ℕ
other_lines line lines = filter (λ n. not (n == line)) lines

-- collect: the line is finished, and how many first lines are, is posted
unfoldable pub collect : Control → ℕ → Stand → ℕ → Driven
collect c driver d line =
    let p : Port = port_of c driver in record {
      control = with_port c driver (record p { answered = other_answers line p.answered; posted = finished_first (other_lines line d.open_lines) d.submitted });
      stand = record d { open_lines = other_lines line d.open_lines };
    }

-- what a driver leaves for the device: a request's readable bytes and the size of its writable part, or a setting of
-- the bypass field
pub data Parcel : Type 0 where
  Chain : (read : List ℕ) → (write : ℕ) → Parcel
  Switch : (on : Bool) → Parcel

-- the parcel of a driver's job; a transfer is none
abbrev pub parcel_of : Job → Option Parcel
parcel_of (job.Ask request) = Some (Chain (request_bytes request) (writable_size (type_of request)))
parcel_of (job.Raw read write) = Some (Chain read write)
parcel_of (job.Bypass on) = Some (Switch on)
parcel_of (job.Read iova len) = None
parcel_of (job.Write iova bytes) = None

-- a request goes to the end of the queue, and a setting to the driver's row
abbrev pub left : Control → ℕ → ℕ → Parcel → Control
left c driver line (Chain read write) = record c { queue = c.queue ++ record { driver = driver; line = line; read = read; write = write } ∷ [] }
left c driver line (Switch on) = let p : Port = port_of c driver in with_port c driver (record p { setting = Some (record { line = line; on = on }) })

-- the next line is submitted
abbrev pub next_open : Stand → Stand
next_open d = record { submitted = d.submitted + 1; open_lines = d.open_lines ++ (d.submitted + 1) ∷ [] }

-- submit
unfoldable pub submit : Control → ℕ → Stand → Parcel → Driven
submit c driver d parcel = record { control = left c driver (d.submitted + 1) parcel; stand = next_open d }

abbrev pub submit_parcel : Control → ℕ → Stand → Option Parcel → Option Driven
submit_parcel c driver d None = None
submit_parcel c driver d (Some parcel) = Some (submit c driver d parcel)

-- every open line is in the batch of the next one
abbrev pub is_one_batch : ScriptValue → ℕ → Stand → Bool
is_one_batch s driver d = list_all (λ line. batch_of s (Driver driver) line == batch_of s (Driver driver) (d.submitted + 1)) d.open_lines

-- the next line is submitted where every open line is of its batch and what it awaits is posted
abbrev pub submit_line : ScriptValue → Control → ℕ → Stand → Option Line → Option Driven
submit_line s c driver d None = None
submit_line s c driver d (Some l) = if is_one_batch s driver d && all_posted s c l.awaits then submit_parcel c driver d (parcel_of l.job) else None

-- but first the lowest answered line is collected
abbrev pub collect_first : ScriptValue → Control → ℕ → Stand → Option Answered → Option Driven
collect_first s c driver d None = submit_line s c driver d (line_of s (Driver driver) (d.submitted + 1))
collect_first s c driver d (Some a) = Some (collect c driver d a.line)

-- the driver's turn, None where it waits or rests
unfoldable pub driver_turn : ScriptValue → Control → ℕ → Stand → Option Driven
driver_turn s c driver d = collect_first s c driver d (first_answer (port_of c driver).answered)
