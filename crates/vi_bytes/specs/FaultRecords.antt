-- A fault record of 24 bytes (Virtio 1.2, 5.13.6.9): reason, flags, endpoint and address.
use Rattle.std.specs.Prelude.{◌≡◌, ◌≤◌, ℕ, List, [], ◌∷◌, ◌++◌, length}
use Rattle.byteorder.specs.Endian.{little_bytes}
use Rattle.vi_bytes.specs.Fields.{field, byte_at}
use Rattle.vi_bytes.specs.declared.lease.Need.{Need}
use Rattle.vi_bytes.specs.declared.lease.Need.TheVariants.{Read, Write}

-- READ is bit 0, WRITE bit 1, and ADDRESS, bit 8, is always set
abbrev pub fault_flags : Need → ℕ
fault_flags Read = 0x101
fault_flags Write = 0x102

-- the record of a fault, its reserved bytes 0
unfoldable pub fault_record : ℕ → Need → ℕ → ℕ → List ℕ
fault_record reason need endpoint address =
    (reason ∷ 0 ∷ 0 ∷ 0 ∷ []) ++ little_bytes 4 (fault_flags need) ++ little_bytes 4 endpoint ++ little_bytes 4 0 ++ little_bytes 8 address

-- 24 bytes read as the record of this fault; reserved bytes are ignored
pub record IsFaultRecord (reason : ℕ) (need : Need) (endpoint address : ℕ) (bytes : List ℕ) : Type 0 where
  pub size : length bytes ≡ 24
  pub reason_at_0 : byte_at 0 bytes ≡ reason
  pub known : reason ≤ 2
  pub flags_at_4 : field 4 4 bytes ≡ fault_flags need
  pub endpoint_at_8 : field 8 4 bytes ≡ endpoint
  pub address_at_16 : field 16 8 bytes ≡ address
