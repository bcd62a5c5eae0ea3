-- For how much there has to be room.
use Rattle.std.specs.Prelude.{◌≡◌, ◌==◌, ℕ, ◌+◌, ◌≤◌, Bool, true, false, if◌then◌else◌, List, [], ◌∷◌, ◌++◌, length, map, Option, Some, None, count_by, sum_by}
use Rattle.std.specs.List.{AllByRecursion, list_any, range_with_len}
use Rattle.vi_bytes.specs.Parts.{part_count, nth_part}
use Rattle.vi_history.specs.Device.{Domain}
use Rattle.vi_history.specs.declared.reading.Reading.{Reading}
use Rattle.vi_history.specs.declared.reading.Reading.TheVariants.{Silent, Malformed, Asks}
use Rattle.vi_history.specs.declared.call.Caller.{Caller}
use Rattle.vi_history.specs.declared.call.Caller.TheVariants.{Driver, Back}
use Rattle.vi_history.specs.declared.request.Request.{Request}
use Rattle.vi_history.specs.declared.request.Request.TheVariants.{Attach, Detach, Map, Unmap, Probe}
use Rattle.vi_lines.specs.declared.job.Job.{Job}
use Rattle.vi_lines.specs.declared.job.Job.TheVariants as job
use Rattle.vi_lines.specs.declared.line.Line.{Line}
use Rattle.vi_lines.specs.Value.{ScriptValue}
use Rattle.vi_lines.specs.Calls.{lines_of, driver_call, parts_of}
use Rattle.vi_model.specs.Tasks.{task_in}
use Rattle.vi_model.specs.declared.task.Task.{Task}
use Rattle.vi_model.specs.declared.task.Task.TheVariants.{Reads, Sets}
use Rattle.vi_grants.specs.declared.row.Grant.{Grant}
use Rattle.vi_model.specs.Places.{back_at}
use Rattle.vi_model.specs.Serves.{page_of}

abbrev pub is_map_request : Request → Bool
is_map_request (Attach domain endpoint flags) = false
is_map_request (Detach domain endpoint) = false
is_map_request (Map domain first last target flags) = true
is_map_request (Unmap domain first last) = false
is_map_request (Probe endpoint) = false

abbrev pub is_map_reading : Reading → Bool
is_map_reading Silent = false
is_map_reading (Malformed probe) = false
is_map_reading (Asks request) = is_map_request request

-- what a line asks for is a MAP
abbrev pub is_map : Option Task → Bool
is_map None = false
is_map (Some (Reads r)) = is_map_reading r
is_map (Some (Sets on)) = false

-- how many lines of the script ask for a MAP, raw requests included
unfoldable pub all_maps : ScriptValue → ℕ
all_maps s = count_by (λ l. is_map (task_in (driver_call l.job))) s.lines

-- how many mappings the domain of this id has
abbrev pub mappings_in : ℕ → List Domain → ℕ
mappings_in id [] = 0
mappings_in id (y ∷ ys) = if y.id == id then length y.mappings else mappings_in id ys

-- how many parts all its transfers have
unfoldable pub all_parts : ScriptValue → ℕ
all_parts s = sum_by (λ l. parts_of l.job) s.lines

abbrev pub is_back : Caller → Bool
is_back (Driver number) = false
is_back (Back id) = true

-- how many lines of back ends it has
unfoldable pub all_transfers : ScriptValue → ℕ
all_transfers s = count_by (λ l. is_back l.caller) s.lines

-- the pages of a job's parts
abbrev pub pages_from : ℕ → ℕ → List ℕ
pages_from iova len = map (λ k. page_of (nth_part iova len k).iova) (range_with_len 1 (part_count iova len))

abbrev pub job_pages : Job → List ℕ
job_pages (job.Ask request) = []
job_pages (job.Raw read write) = []
job_pages (job.Bypass on) = []
job_pages (job.Read iova len) = pages_from iova len
job_pages (job.Write iova bytes) = pages_from iova (length bytes)

abbrev pub line_pages : List Line → List ℕ
line_pages [] = []
line_pages (l ∷ ls) = job_pages l.job ++ line_pages ls

-- the pages of the parts of a back end's lines
abbrev pub pages_of : ScriptValue → ℕ → List ℕ
pages_of s place = line_pages (lines_of s (back_at s place))

abbrev pub is_in : ℕ → List ℕ → Bool
is_in page pages = list_any (λ p. p == page) pages

-- each page once
abbrev pub distinct : List ℕ → List ℕ
distinct [] = []
distinct (p ∷ ps) = if is_in p ps then distinct ps else p ∷ distinct ps

-- each grant is under one of these pages, and with the room left there are at least as many as different pages
pub record HasGrantRoom (pages : List ℕ) (grants : List Grant) (spare : ℕ) : Type 0 where
  pub within : AllByRecursion (λ g. is_in g.asked pages ≡ true) grants
  pub enough : length (distinct pages) ≤ length grants + spare
