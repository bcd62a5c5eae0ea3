-- Fault reports as bytes (Virtio 1.2, 5.13.6.9): the bytes of a record, and what is wrong with others.
use Rattle.std.specs.Prelude.{◌≡◌, ◌≢◌, ◌≤◌, ◌<◌, ℕ, Bool, true, false, List, length}
use Rattle.vi_bytes.specs.Fields.{field, byte_at}
use Rattle.vi_bytes.specs.FaultRecords.{fault_record, fault_flags, IsFaultRecord}
use Rattle.vi_bytes.specs.declared.lease.Need.{Need}
use Rattle.vi_bytes.specs.declared.lease.Need.TheVariants.{Read, Write}
use Rattle.vi_fault.specs.declared.record.FaultRecord.{FaultRecord}
use Rattle.vi_fault.specs.declared.refusal.FaultFault.{FaultFault}
use Rattle.vi_fault.specs.declared.refusal.FaultFault.TheVariants.{Size, Reason, Flags}

-- what the access needed, by whether it was a write
abbrev pub need_of : Bool → Need
need_of true = Write
need_of false = Read

-- the 24 bytes that are written for a record
abbrev pub record_bytes : FaultRecord → List ℕ
record_bytes r = fault_record r.reason (need_of r.write) r.endpoint r.address

-- the bytes read as this record
abbrev pub ReadAs : List ℕ → FaultRecord → Type 0
ReadAs bytes r = IsFaultRecord r.reason (need_of r.write) r.endpoint r.address bytes

-- The bytes are refused so: first for their size, then for a reason above MAPPING, which is 2, and then
-- for flags that are those of neither a read nor a write.
abbrev pub RefusedAs : List ℕ → FaultFault → Type 0
RefusedAs bytes Size = length bytes ≢ 24
RefusedAs bytes (Reason r) = (length bytes ≡ 24) × (byte_at 0 bytes ≡ r) × (2 < r)
RefusedAs bytes (Flags f) =
    (length bytes ≡ 24) × (byte_at 0 bytes ≤ 2) × (field 4 4 bytes ≡ f) × (f ≢ fault_flags Read) × (f ≢ fault_flags Write)
