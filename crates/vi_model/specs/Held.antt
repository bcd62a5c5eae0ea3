-- A driver's open lines: each is in one place.
use Rattle.std.specs.Prelude.{◌≡◌, ◌==◌, ℕ, ◌+◌, ◌<◌, ◌≤◌, Bool, ◌&&◌, nat_lt, nat_le, List, [], ◌∷◌, length, Option, Some, None}
use Rattle.std.specs.List.{AllByRecursion}
use Rattle.vi_history.specs.declared.call.Caller.TheVariants.{Driver}
use Rattle.vi_history.specs.declared.entry.Entry.{Entry}
use Rattle.vi_lines.specs.Value.{ScriptValue}
use Rattle.vi_lines.specs.Calls.{lines_of, awaits_of}
use Rattle.vi_lines.specs.Order.{entries_at, batch_of}
use Rattle.vi_model.specs.Tasks.{task_at}
use Rattle.vi_model.specs.Removals.{Removal}
use Rattle.vi_model.specs.Control.{Queued, Setting, Answered, Started, driver_count}
use Rattle.vi_model.specs.Starts.{driver_entry, queued_call, setting_call}
use Rattle.vi_model.specs.Drivers.{Stand, finished_first}
use Rattle.vi_model.specs.Asking.{one_if}
use Rattle.vi_model.specs.Tracks.{AreWhole, StandsIn}

-- what is started is what the driver's line asks for
abbrev pub IsCall : ScriptValue → Started → Type 0
IsCall s call = (call.driver < driver_count) × (task_at s call.driver call.line ≡ Some call.task)

-- so is each request of the queue, each open removal, and a setting that is left
abbrev pub AreQueued : ScriptValue → List Queued → Type 0
AreQueued s queue = AllByRecursion (λ q. IsCall s (queued_call q)) queue

abbrev pub removal_call : Removal → Started
removal_call r = record { driver = r.driver; line = r.line; task = r.task }

-- an open removal has a mark for each back end
abbrev pub IsRemoval : ScriptValue → ℕ → Removal → Type 0
IsRemoval s places r = IsCall s (removal_call r) × (length r.waits ≡ places)

abbrev pub SettingIsCall : ScriptValue → ℕ → Option Setting → Type 0
SettingIsCall s driver None = Unit {0}
SettingIsCall s driver (Some x) = IsCall s (setting_call driver x)

-- how often the driver's line stands in the queue, among the open removals, as its setting, and among its answers
abbrev pub count_queued : ℕ → ℕ → List Queued → ℕ
count_queued driver line [] = 0
count_queued driver line (q ∷ qs) = one_if ((q.driver == driver) && (q.line == line)) + count_queued driver line qs

abbrev pub count_removals : ℕ → ℕ → List Removal → ℕ
count_removals driver line [] = 0
count_removals driver line (r ∷ rs) = one_if ((r.driver == driver) && (r.line == line)) + count_removals driver line rs

abbrev pub count_setting : ℕ → Option Setting → ℕ
count_setting line None = 0
count_setting line (Some x) = one_if (x.line == line)

abbrev pub count_answers : ℕ → List Answered → ℕ
count_answers line [] = 0
count_answers line (a ∷ rest) = one_if (a.line == line) + count_answers line rest

abbrev pub count_line : ℕ → List ℕ → ℕ
count_line line [] = 0
count_line line (n ∷ ns) = one_if (n == line) + count_line line ns

-- in how many places it waits for its answer
abbrev pub count_held : List Queued → List Removal → Option Setting → ℕ → ℕ → ℕ
count_held queue removals setting driver line = count_queued driver line queue + (count_removals driver line removals + count_setting line setting)

-- the line is one of the first that were submitted
abbrev pub is_among_first : ℕ → ℕ → Bool
is_among_first line submitted = nat_lt 0 line && nat_le line submitted

-- what is answered stands in the history with that answer
abbrev pub AnswersStand : List Entry → ℕ → List Answered → Type 0
AnswersStand entries driver answers = AllByRecursion (λ a. StandsIn (driver_entry driver a.line a.answer) entries) answers

-- `held` says in how many places a line waits for its answer. An open line is a submitted one, in one place, once; all
-- of them are of one batch. The entries are those of the submitted lines, but for the open ones without an answer. The
-- posted number is that of the first lines that are all finished.
pub record IsSoundDriver (s : ScriptValue) (driver : ℕ) (held : ℕ → ℕ) (entries : List Entry) (answers : List Answered) (posted : ℕ) (d : Stand) : Type 0 where
  pub one : (line : ℕ) → held line + count_answers line answers ≡ count_line line d.open_lines
  pub once : (line : ℕ) → count_line line d.open_lines ≤ 1
  pub below : (line : ℕ) → 0 < count_line line d.open_lines → (1 ≤ line) × (line ≤ d.submitted)
  pub lines : d.submitted ≤ length (lines_of s (Driver driver))
  pub batch : (a b : ℕ) → 0 < count_line a d.open_lines → 0 < count_line b d.open_lines → batch_of s (Driver driver) a ≡ batch_of s (Driver driver) b
  pub told : AnswersStand entries driver answers
  pub entered : (line : ℕ) → entries_at (Driver driver) line entries + count_line line d.open_lines ≡ one_if (is_among_first line d.submitted) + count_answers line answers
  pub opened : (line : ℕ) → 0 < count_line line d.open_lines → AreWhole s entries (awaits_of s (Driver driver) line)
  pub posted_is : posted ≡ finished_first d.open_lines d.submitted
