-- Fault records: which entries have one, and which were delivered (Virtio 1.2, 5.13.6.9).
use Rattle.std.specs.Prelude.{◌≡◌, ℕ, ◌+◌, if◌then◌else◌, List, [], ◌∷◌, ◌++◌, ◌⊎◌, length, take, All, Contains}
use Rattle.vi_history.specs.Kinds.{is_fault}
use Rattle.vi_bytes.specs.FaultRecords.{fault_record}
use Rattle.vi_bytes.specs.declared.lease.Need.TheVariants as need
use Rattle.vi_history.specs.declared.call.Call.{Call}
use Rattle.vi_history.specs.declared.call.Call.TheVariants.{Ask, Raw, Bypass, Read, Write}
use Rattle.vi_history.specs.declared.entry.Entry.{Entry}
use Rattle.vi_history.specs.declared.entry.Kind.{Kind}
use Rattle.vi_history.specs.declared.outcome.Shown.{Shown}

-- the record of a fault at an access: its endpoint, its need and its first address; a request has none
abbrev pub record_of : ℕ → Call → List ℕ
record_of reason (Ask request) = []
record_of reason (Raw read write) = []
record_of reason (Bypass on) = []
record_of reason (Read endpoint part) = fault_record reason need.Read endpoint part.iova
record_of reason (Write endpoint part bytes) = fault_record reason need.Write endpoint part.iova

-- the records of an entry of this number: one where it is a fault
abbrev pub records_at : ℕ → Kind → ℕ → Call → List Shown
records_at number kind code c = if is_fault kind then record { entry = number; bytes = record_of code c } ∷ [] else []

-- the records of the entries from this number on, in order
abbrev pub records_from : ℕ → List Call → List Entry → List Shown
records_from number [] hs = []
records_from number (c ∷ cs) [] = []
records_from number (c ∷ cs) (h ∷ hs) = records_at number h.mark.kind h.mark.code c ++ records_from (number + 1) cs hs

-- the records of a history whose entries answer these calls, entries numbered from 1
unfoldable pub records : List Call → List Entry → List Shown
records calls entries = records_from 1 calls entries

-- the shown records are some of these, in their order, each at most once
abbrev pub AreTakenFrom : List Shown → List Shown → Type 0
AreTakenFrom [] rs = Unit {0}
AreTakenFrom (x ∷ xs) [] = ⊥
AreTakenFrom (x ∷ xs) (r ∷ rs) = ((x ≡ r) × AreTakenFrom xs rs) ⊎ AreTakenFrom (x ∷ xs) rs

-- With n event buffers the delivered records are taken from those of the history, the first n of them are
-- all there, and those that aren't there were counted as dropped.
pub record IsShownWell (n : ℕ) (calls : List Call) (entries : List Entry) (shown : List Shown) (dropped : ℕ) : Type 0 where
  pub taken : AreTakenFrom shown (records calls entries)
  pub first : All (λ r. Contains shown r) (take n (records calls entries))
  pub counted : length shown + dropped ≡ length (records calls entries)
