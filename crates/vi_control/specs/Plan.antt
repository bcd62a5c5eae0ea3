-- What the control knows of its script.
use Rattle.std.specs.Prelude.{ℕ, List, length, map}
use Rattle.std.specs.List.{range_with_len}
use Rattle.vi_bytes.specs.declared.lease.Need.TheVariants.{Read, Write}
use Rattle.vi_lines.specs.declared.job.Job.{Job}
use Rattle.vi_lines.specs.declared.job.Job.TheVariants as job
use Rattle.vi_lines.specs.Value.{ScriptValue}
use Rattle.vi_lines.specs.Calls.{lines_of}
use Rattle.vi_model.specs.Places.{ids_of, place_count, back_at}
use Rattle.vi_control.specs.declared.transfer.Transfer.{Transfer}

-- The endpoints' ids by place, what each of their back ends transfers, line by line, and how many event buffers there
-- are.
pub record Plan : Type 0 where
  pub ids : List ℕ
  pub transfers : List (List Transfer)
  pub buffers : ℕ

-- what a line transfers; a line of a driver transfers nothing
abbrev pub transfer_of : Job → Transfer
transfer_of (job.Ask request) = record { iova = 0; len = 0; need = Read }
transfer_of (job.Raw read write) = record { iova = 0; len = 0; need = Read }
transfer_of (job.Bypass on) = record { iova = 0; len = 0; need = Read }
transfer_of (job.Read iova len) = record { iova = iova; len = len; need = Read }
transfer_of (job.Write iova bytes) = record { iova = iova; len = length bytes; need = Write }

-- what the back end at a place transfers
abbrev pub transfers_of : ScriptValue → ℕ → List Transfer
transfers_of s place = map (λ l. transfer_of l.job) (lines_of s (back_at s place))

-- the plan of a script
unfoldable pub plan_of : ScriptValue → Plan
plan_of s = record {
  ids = ids_of s;
  transfers = map (transfers_of s) (range_with_len 0 (place_count s));
  buffers = s.setup.queue;
}
