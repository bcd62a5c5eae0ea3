-- Fault records and their 24 bytes.
use Rattle.std.proofs.Common.{◌≡◌, ℕ, ◌≤◌, ◌<◌, ◌^◌, List, [], ◌++◌, length, refl, sym, ◌∙◌, lit<, arith}
use Rattle.byteorder.specs.Endian.{little_bytes}
use Rattle.byteorder.specs.Numbers.{little_number-reads_back}
use Rattle.vi_bytes.specs.declared.lease.Need.{Need}
use Rattle.vi_bytes.specs.declared.lease.Need.TheVariants.{Read, Write}
use Rattle.vi_bytes.specs.FaultRecords.{fault_flags, fault_record, IsFaultRecord}

-- the flags tell the needs apart
same_need : (need other : Need) → fault_flags need ≡ fault_flags other → need ≡ other
same_need Read Read e = refl
same_need Read Write e = absurd (omega arith)
same_need Write Read e = absurd (omega arith)
same_need Write Write e = refl

fault_flags-lt : (need : Need) → fault_flags need < 2 ^ 32
fault_flags-lt Read = lit< tt
fault_flags-lt Write = lit< tt

pub length-fault_record : (reason : ℕ) (need : Need) (endpoint address : ℕ) → length (fault_record reason need endpoint address) ≡ 24
unfolding fault_record
length-fault_record reason need endpoint address = refl

-- what a fault record says is read back from its bytes
pub IsFaultRecord-fault_record : (reason : ℕ) (need : Need) (endpoint address : ℕ) → reason ≤ 2 → endpoint < 2 ^ 32 → address < 2 ^ 64 → IsFaultRecord reason need endpoint address (fault_record reason need endpoint address)
unfolding fault_record
IsFaultRecord-fault_record reason need endpoint address known endpoint_fits address_fits = record {
  size = refl;
  reason_at_0 = refl;
  known = known;
  flags_at_4 = little_number-reads_back 4 (fault_flags need) (little_bytes 4 endpoint ++ little_bytes 4 0 ++ little_bytes 8 address) (fault_flags-lt need);
  endpoint_at_8 = little_number-reads_back 4 endpoint (little_bytes 4 0 ++ little_bytes 8 address) endpoint_fits;
  address_at_16 = little_number-reads_back 8 address [] address_fits;
}

-- the bytes say one thing
pub same-from_IsFaultRecord : (reason other_reason : ℕ) (need other_need : Need) (endpoint other_endpoint address other_address : ℕ) (bytes : List ℕ) → IsFaultRecord reason need endpoint address bytes → IsFaultRecord other_reason other_need other_endpoint other_address bytes → (reason ≡ other_reason) × (need ≡ other_need) × (endpoint ≡ other_endpoint) × (address ≡ other_address)
same-from_IsFaultRecord reason other_reason need other_need endpoint other_endpoint address other_address bytes one other = (
  sym one.reason_at_0 ∙ other.reason_at_0,
  same_need need other_need (sym one.flags_at_4 ∙ other.flags_at_4),
  sym one.endpoint_at_8 ∙ other.endpoint_at_8,
  sym one.address_at_16 ∙ other.address_at_16,
)
