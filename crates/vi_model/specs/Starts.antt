-- The device starts and finishes calls of drivers.
use Rattle.std.specs.Prelude.{ℕ, Bool, ◌&&◌, if◌then◌else◌, List, [], ◌∷◌, ◌++◌, length, get_or, set, map, Option, Some, None}
use Rattle.std.specs.List.{list_any, range_with_len}
use Rattle.vi_bytes.specs.declared.span.Span.{Span}
use Rattle.vi_history.specs.Requests.{reading}
use Rattle.vi_history.specs.Replies.{Answer}
use Rattle.vi_history.specs.declared.call.Caller.{Caller}
use Rattle.vi_history.specs.declared.call.Caller.TheVariants.{Driver}
use Rattle.vi_history.specs.declared.entry.Entry.{Entry}
use Rattle.vi_lines.specs.Value.{ScriptValue}
use Rattle.vi_model.specs.Tasks.{task_answer, task_commit, removes, reach_of}
use Rattle.vi_model.specs.declared.task.Task.{Task}
use Rattle.vi_model.specs.declared.task.Task.TheVariants.{Reads, Sets}
use Rattle.vi_model.specs.Lanes.{Down, Invalidate, Lanes}
use Rattle.vi_model.specs.Removals.{Removal, waits_for, must_wait, without_first}
use Rattle.vi_model.specs.Control.{Queued, Setting, Port, Control, Started, Made, no_port, no_lanes}
use Rattle.vi_model.specs.Places.{place_count, id_at}

-- an entry of this answer
abbrev pub entry_of : Caller → ℕ → ℕ → Answer → Entry
entry_of caller line part a = record { mark = record { caller = caller; line = line; part = part; kind = a.kind; code = a.code }; bytes = a.bytes }

-- the entry of a driver's line
abbrev pub driver_entry : ℕ → ℕ → Answer → Entry
driver_entry driver line a = entry_of (Driver driver) line 0 a

-- the driver's row with one more answered line
abbrev pub answered_port : Port → ℕ → Answer → Port
answered_port p line a = record p { answered = p.answered ++ record { line = line; answer = a } ∷ [] }

abbrev pub answer_port : List Port → ℕ → ℕ → Answer → List Port
answer_port ports driver line a = set ports driver (answered_port (get_or ports driver no_port) line a)

-- a call is answered against the device's state of now and takes effect
abbrev pub answered : Control → ℕ → ℕ → Task → Made
answered c driver line task = record {
  control = record c { dev = task_commit c.dev task; ports = answer_port c.ports driver line (task_answer c.dev task) };
  entry = Some (driver_entry driver line (task_answer c.dev task));
}

-- the control without the first removal that waits for nobody
abbrev pub without_ready : Control → Control
without_ready c = record c { removals = without_first c.removals }

-- finish: a removal that waits for nobody is answered
unfoldable pub finish : Control → Removal → Made
finish c r = answered (without_ready c) r.driver r.line r.task

-- the back end at a place has to be waited for
abbrev pub is_in_way : ScriptValue → Control → Task → ℕ → Bool
is_in_way s c task place = must_wait c.dev task (id_at s place) (get_or c.grants place [])

-- whom a removal that starts waits for, by place
abbrev pub awaited_by : ScriptValue → Control → Task → List Bool
awaited_by s c task = map (is_in_way s c task) (range_with_len 0 (place_count s))

-- one of these is set
abbrev pub any : List Bool → Bool
any flags = list_any (λ b. b) flags

-- the frames to a back end, and an Invalidate if the removal waits for it
abbrev pub told : Bool → Option Span → List Down → List Down
told waits reach down = if waits then down ++ Invalidate reach ∷ [] else down

abbrev pub told_lanes : Removal → List Lanes → ℕ → Lanes
told_lanes r mail place =
    let x : Lanes = get_or mail place no_lanes in
    record x { down = told (waits_for place r) (reach_of r.task) x.down }

-- each back end that the removal waits for is sent an Invalidate
abbrev pub tell : Removal → List Lanes → List Lanes
tell r mail = map (told_lanes r mail) (range_with_len 0 (length mail))

-- the removal is begun
abbrev pub begun : Control → Removal → Control
begun c r = record c { removals = c.removals ++ r ∷ []; mail = tell r c.mail }

-- the removal of a call that starts
abbrev pub removal_of : Started → List Bool → Removal
removal_of call waits = record { driver = call.driver; line = call.line; task = call.task; waits = waits }

-- Start: a removal that has to wait for a back end is begun, and every other call is answered at once.
unfoldable pub start : ScriptValue → Control → Started → Made
start s c call =
    if removes c.dev call.task && any (awaited_by s c call.task)
    then record { control = begun c (removal_of call (awaited_by s c call.task)); entry = None }
    else answered c call.driver call.line call.task

-- what stands in the request queue, and what a driver left as a setting, as they are started
abbrev pub queued_call : Queued → Started
queued_call q = record { driver = q.driver; line = q.line; task = Reads (reading q.read q.write) }

abbrev pub setting_call : ℕ → Setting → Started
setting_call driver x = record { driver = driver; line = x.line; task = Sets x.on }
