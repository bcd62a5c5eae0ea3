-- For how much a history needs room, in entries and in bytes.
use Rattle.std.specs.Prelude.{◌≤◌, ℕ, length, sum_by}
use Rattle.vi_history.specs.declared.entry.Entry.{Entry}
use Rattle.vi_history.specs.declared.request.Request.{Request}
use Rattle.vi_history.specs.declared.request.Request.TheVariants.{Attach, Detach, Map, Unmap, Probe}
use Rattle.vi_lines.specs.declared.job.Job.{Job}
use Rattle.vi_lines.specs.declared.job.Job.TheVariants as job
use Rattle.vi_lines.specs.declared.line.Line.{Line}
use Rattle.vi_lines.specs.Value.{ScriptValue}
use Rattle.vi_model.specs.Worlds.{World}
use Rattle.vi_model.specs.Rounds.{calls_of}
use Rattle.vi_model.specs.Playable.{IsPlayable}
use Rattle.vi_model.specs.Sound.{IsSound}

-- how many bytes the answer to a request can have: a PROBE is answered with 512 bytes of properties
abbrev pub request_answer_bytes : Request → ℕ
request_answer_bytes (Attach domain endpoint flags) = 0
request_answer_bytes (Detach domain endpoint) = 0
request_answer_bytes (Map domain first last target flags) = 0
request_answer_bytes (Unmap domain first last) = 0
request_answer_bytes (Probe endpoint) = 512

-- and the answers to a line's calls together; raw bytes may read as a PROBE
abbrev pub answer_bytes : Job → ℕ
answer_bytes (job.Ask request) = request_answer_bytes request
answer_bytes (job.Raw read write) = 512
answer_bytes (job.Bypass on) = 0
answer_bytes (job.Read iova len) = len
answer_bytes (job.Write iova bytes) = 0

-- and all answers of a script
unfoldable pub bytes_of : ScriptValue → ℕ
bytes_of s = sum_by (λ (l : Line). answer_bytes l.job) s.lines

-- The history of a sound world has at most an entry for each call of the script, and at most so many bytes.
abbrev pub HistoryHasRoom : Type 0
HistoryHasRoom = (s : ScriptValue) (w : World) → IsPlayable s → IsSound s w → (length w.history ≤ calls_of s) × (sum_by (λ (h : Entry). length h.bytes) w.history ≤ bytes_of s)
