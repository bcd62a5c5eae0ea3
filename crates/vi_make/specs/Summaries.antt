-- The summary of the load script's run.
use Rattle.std.specs.Prelude.{◌==◌, ℕ, Bool, true, false, ◌&&◌, if◌then◌else◌, List, ◌++◌, length, count_by, sum, sum_by, codes, decimal}
use Rattle.vi_history.specs.Kinds.{is_fault}
use Rattle.vi_history.specs.declared.entry.Entry.{Entry}
use Rattle.vi_history.specs.declared.entry.Kind.{Kind}
use Rattle.vi_history.specs.declared.entry.Kind.TheVariants.{Status, Read}

-- the answer is a status, or bytes that were read
abbrev pub is_status : Kind → Bool
is_status Status = true
is_status _ = false

abbrev pub is_read : Kind → Bool
is_read Read = true
is_read _ = false

-- the entry is a status of 0, which is OK
abbrev pub succeeded : Entry → Bool
succeeded h = is_status h.mark.kind && (h.mark.code == 0)

-- the entry is a fault
abbrev pub faulted : Entry → Bool
faulted h = is_fault h.mark.kind

-- the sum of the bytes that the entry read
abbrev pub read_sum : Entry → ℕ
read_sum h = if is_read h.mark.kind then sum h.bytes else 0

-- the line with the number of rounds, of entries, of those that succeeded and that faulted, and the sum of all
-- bytes that were read
unfoldable pub summary_line : ℕ → List Entry → List ℕ
summary_line rounds entries =
    codes "load " ++ decimal rounds ++ codes " entries " ++ decimal (length entries) ++ codes " ok " ++ decimal (count_by succeeded entries) ++ codes " faults " ++ decimal (count_by faulted entries) ++ codes " sum " ++ decimal (sum_by read_sum entries) ++ codes "\n"
