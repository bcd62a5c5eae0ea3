-- Rules of a script's lines that a text's reader tests, said of spans, jobs and lines alone.
use Rattle.std.specs.Prelude.{◌==◌, ℕ, ◌+◌, ◌%◌, ◌^◌, Bool, true, false, not, ◌&&◌, nat_lt, nat_le, List, length, filter}
use Rattle.vi_bytes.specs.declared.span.Span.{Span}
use Rattle.vi_history.specs.declared.call.Caller.{Caller}
use Rattle.vi_lines.specs.declared.job.Job.{Job}
use Rattle.vi_lines.specs.declared.job.Job.TheVariants as job
use Rattle.vi_lines.specs.declared.line.Line.{Line}
use Rattle.vi_lines.specs.declared.line.Await.{Await}
use Rattle.vi_lines.specs.Calls.{same_caller}
use Rattle.vi_lines.specs.Limits.{is_length}

-- the span is whole granules
abbrev pub is_aligned : ℕ → Span → Bool
is_aligned granule span = (span.first % granule == 0) && ((span.last + 1) % granule == 0)

-- a transfer of so many bytes passes the last address; a number of bytes that is beyond its limit isn't tested
abbrev pub runs_over : ℕ → ℕ → Bool
runs_over iova len = is_length len && nat_lt (2 ^ 64) (iova + len)

abbrev pub job_runs_over : Job → Bool
job_runs_over (job.Ask request) = false
job_runs_over (job.Raw read write) = false
job_runs_over (job.Bypass on) = false
job_runs_over (job.Read iova len) = runs_over iova len
job_runs_over (job.Write iova bytes) = runs_over iova (length bytes)

-- how many lines of a caller there are
abbrev pub count_lines : List Line → Caller → ℕ
count_lines lines caller = length (filter (λ l. same_caller l.caller caller) lines)

-- the awaited line is above, and of another caller
abbrev pub awaits_well : List Line → Caller → Await → Bool
awaits_well lines caller a = not (same_caller a.caller caller) && (nat_le 1 a.line && nat_le a.line (count_lines lines a.caller))
