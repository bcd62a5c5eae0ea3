-- What is wrong with bytes that are no IOTLB frame: the first of seven things, in this order.
use Rattle.std.specs.Prelude.{◌≡◌, ◌≢◌, ◌≤◌, ◌<◌, ◌+◌, ◌⊎◌, ℕ, List, length, ◌==◌, if◌then◌else◌}
use Rattle.vi_bytes.specs.Parts.{IsTransfer}
use Rattle.vi_iotlb.specs.Fields.{request_of, flags_of, payload_size_of, iova_of, size_of, user_address_of, permission_of, type_of, answer_of, IsPermission, AreGrantFields, AreRangeFields}
use Rattle.vi_iotlb.specs.Frames.{AsksHeader, UpdateHeader, InvalidateHeader, AckHeader}
use Rattle.vi_iotlb.specs.declared.refusal.FrameFault.{FrameFault}
use Rattle.vi_iotlb.specs.declared.refusal.FrameFault.TheVariants.{Short, Request, Flags, Size, Kind, Perm, Field}

-- the flags that frames of a request have
abbrev pub AreFlags : ℕ → ℕ → Type 0
AreFlags request flags = (flags ≡ 5) ⊎ (flags ≡ 9) ⊎ ((flags ≡ 1) × (request ≡ 22))

-- how many bytes the payload has: 8 in a reply, which flags 5 mark
abbrev pub payload_size_for : ℕ → ℕ
payload_size_for flags = if flags == 5 then 8 else 32

-- a header is there, with the request of some frame
pub record HasRequest (bytes : List ℕ) : Type 0 where
  pub header : 12 ≤ length bytes
  pub request : (request_of bytes ≡ 1) ⊎ (request_of bytes ≡ 22)

-- and with flags of that request's frames
pub record HasFlags (bytes : List ℕ) : Type 0 where
  pub request : HasRequest bytes
  pub flags : AreFlags (request_of bytes) (flags_of bytes)

-- the payload has the size for its flags, and the bytes end with it
pub record HasSize (bytes : List ℕ) : Type 0 where
  pub payload : payload_size_of bytes ≡ payload_size_for (flags_of bytes)
  pub whole : length bytes ≡ 12 + payload_size_of bytes

-- a miss or an access fail, by header and type
pub record IsAsk (bytes : List ℕ) : Type 0 where
  pub header : AsksHeader bytes
  pub type : (type_of bytes ≡ 1) ⊎ (type_of bytes ≡ 4)

-- an update, by header and type
pub record IsUpdate (bytes : List ℕ) : Type 0 where
  pub header : UpdateHeader bytes
  pub type : type_of bytes ≡ 2

-- an invalidate, by header and type
pub record IsInvalidate (bytes : List ℕ) : Type 0 where
  pub header : InvalidateHeader bytes
  pub type : type_of bytes ≡ 3

-- the type is not one of the frames with this header
abbrev pub HasOtherType : List ℕ → Type 0
HasOtherType bytes =
    (AsksHeader bytes × (type_of bytes ≢ 1) × (type_of bytes ≢ 4))
    ⊎ (UpdateHeader bytes × (type_of bytes ≢ 2)) ⊎ (InvalidateHeader bytes × (type_of bytes ≢ 3))

-- a miss or an access fail asks for reading, 1, or for writing, 2; an update permits one or both, 3
abbrev pub HasOtherPermission : List ℕ → Type 0
HasOtherPermission bytes =
    (IsAsk bytes × (permission_of bytes ≢ 1) × (permission_of bytes ≢ 2))
    ⊎ (IsUpdate bytes × (¬ IsPermission (permission_of bytes)))

-- The fields past these are of no frame: a part of no bytes, of more than 65536 or past the last address;
-- pages that can't be granted; a range past the last address; an ack with another answer than 0.
abbrev pub HasOtherFields : List ℕ → Type 0
HasOtherFields bytes =
    (IsAsk bytes × (1 ≤ permission_of bytes) × (permission_of bytes ≤ 2) × (¬ IsTransfer (iova_of bytes) (size_of bytes)))
    ⊎ (IsUpdate bytes × IsPermission (permission_of bytes) × (¬ AreGrantFields (iova_of bytes) (size_of bytes) (user_address_of bytes)))
    ⊎ (IsInvalidate bytes × (¬ AreRangeFields (iova_of bytes) (size_of bytes)))
    ⊎ (AckHeader bytes × (answer_of bytes ≢ 0))

-- the bytes are refused so
abbrev pub RefusedAs : List ℕ → FrameFault → Type 0
RefusedAs bytes Short = length bytes < 12
RefusedAs bytes (Request r) = (12 ≤ length bytes) × (request_of bytes ≡ r) × (r ≢ 1) × (r ≢ 22)
RefusedAs bytes (Flags f) = HasRequest bytes × (flags_of bytes ≡ f) × (¬ AreFlags (request_of bytes) f)
RefusedAs bytes (Size s) = HasFlags bytes × (payload_size_of bytes ≡ s) × (¬ HasSize bytes)
RefusedAs bytes (Kind t) = (type_of bytes ≡ t) × HasOtherType bytes
RefusedAs bytes (Perm p) = (permission_of bytes ≡ p) × HasOtherPermission bytes
RefusedAs bytes Field = HasOtherFields bytes
