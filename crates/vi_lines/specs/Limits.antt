-- The limits of a script.
use Rattle.std.specs.Prelude.{◌==◌, ℕ, ◌+◌, max, Bool, true, ◌&&◌, ◌||◌, nat_lt, nat_le, if◌then◌else◌, List, [], ◌∷◌, length, filter, sum_by}
use Rattle.std.specs.List.{range_with_len}
use Rattle.vi_history.specs.declared.call.Caller.{Caller}
use Rattle.vi_history.specs.declared.call.Caller.TheVariants.{Driver, Back}
use Rattle.vi_lines.specs.declared.job.Job.{Job}
use Rattle.vi_lines.specs.declared.job.Job.TheVariants.{Ask, Raw, Bypass, Read, Write}
use Rattle.vi_lines.specs.declared.line.Line.{Line}
use Rattle.vi_lines.specs.Calls.{same_caller}

-- a size of memory in pages, of a queue, of a cache; a granule
abbrev pub is_memory : ℕ → Bool
is_memory n = nat_le 1 n && nat_le n 16384

abbrev pub is_queue : ℕ → Bool
is_queue n = (n == 16) || ((n == 32) || ((n == 64) || ((n == 128) || (n == 256))))

abbrev pub is_cache : ℕ → Bool
is_cache n = nat_le 1 n && nat_le n 64

abbrev pub is_granule : ℕ → Bool
is_granule n = (n == 4096) || ((n == 16384) || (n == 65536))

-- how many bytes a transfer has
abbrev pub is_length : ℕ → Bool
is_length n = nat_le 1 n && nat_le n 65536

-- the readable bytes of a raw request and its writable ones: at most 1024 each, and some
abbrev pub is_raw : ℕ → ℕ → Bool
is_raw readable writable = nat_le readable 1024 && (nat_le writable 1024 && nat_lt 0 (readable + writable))

-- a job is within its limits
abbrev pub is_job : Job → Bool
is_job (Ask request) = true
is_job (Raw read write) = is_raw (length read) write
is_job (Bypass on) = true
is_job (Read iova len) = is_length len
is_job (Write iova bytes) = is_length (length bytes)

-- a driver has a number from 0 to 7
abbrev pub is_driver : Caller → Bool
is_driver (Driver number) = nat_le number 7
is_driver (Back id) = true

-- how many bytes a line transfers, and all lines
abbrev pub transferred : Job → ℕ
transferred (Ask request) = 0
transferred (Raw read write) = 0
transferred (Bypass on) = 0
transferred (Read iova len) = len
transferred (Write iova bytes) = length bytes

abbrev pub bytes_in : List Line → ℕ
bytes_in lines = sum_by (λ l. transferred l.job) lines

-- The length of the longest batch of a driver's lines, where its open batch has so many lines already. A line
-- that isn't an add line ends its batch.
abbrev pub longest_batch_from : ℕ → List Line → ℕ
longest_batch_from before [] = 0
longest_batch_from before (l ∷ ls) = max (before + 1) (longest_batch_from (if l.add then before + 1 else 0) ls)

abbrev pub longest_batch : List Line → Caller → ℕ
longest_batch lines caller = longest_batch_from 0 (filter (λ l. same_caller l.caller caller) lines)

-- the sum over all drivers of the lengths of their longest batches
abbrev pub open_calls : List Line → ℕ
open_calls lines = sum_by (λ number. longest_batch lines (Driver number)) (range_with_len 0 8)
