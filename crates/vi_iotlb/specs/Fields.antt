-- The fields of an IOTLB frame (the vhost-user protocol's IOTLB messages, and REPLY_ACK for replies): where
-- they stand, and what they may hold. A frame is a header of 12 bytes and a payload. The payload of a
-- message has 32 bytes, and that of a reply 8.
use Rattle.std.specs.Prelude.{◌≡◌, ◌≤◌, ◌<◌, ◌+◌, ◌-◌, ◌*◌, ◌/◌, ◌%◌, ◌^◌, ℕ, List}
use Rattle.vi_bytes.specs.Fields.{field, byte_at}
use Rattle.vi_bytes.specs.Spans.{IsProper}
use Rattle.vi_bytes.specs.declared.span.Span.{Span}
use Rattle.vi_bytes.specs.declared.lease.Need.{Need}
use Rattle.vi_bytes.specs.declared.lease.Need.TheVariants.{Read, Write}
use Rattle.vi_iotlb.specs.declared.frame.TheConstants.{USER_BASE}

-- the header: which request the frame is, its flags, and how many bytes its payload has
abbrev pub request_of : List ℕ → ℕ
request_of bytes = field 0 4 bytes

abbrev pub flags_of : List ℕ → ℕ
flags_of bytes = field 4 4 bytes

abbrev pub payload_size_of : List ℕ → ℕ
payload_size_of bytes = field 8 4 bytes

-- the payload of a message: the first address, how many bytes, the user address, the permission and the type
abbrev pub iova_of : List ℕ → ℕ
iova_of bytes = field 12 8 bytes

abbrev pub size_of : List ℕ → ℕ
size_of bytes = field 20 8 bytes

abbrev pub user_address_of : List ℕ → ℕ
user_address_of bytes = field 28 8 bytes

abbrev pub permission_of : List ℕ → ℕ
permission_of bytes = byte_at 36 bytes

abbrev pub type_of : List ℕ → ℕ
type_of bytes = byte_at 37 bytes

-- the payload of a reply
abbrev pub answer_of : List ℕ → ℕ
answer_of bytes = field 12 8 bytes

-- the permission that a need asks for
abbrev pub permission_for : Need → ℕ
permission_for Read = 1
permission_for Write = 2

-- how many bytes a span has, as a field of 8 bytes: 0 for all addresses
abbrev pub span_size : Span → ℕ
span_size span = (span.last - span.first + 1) % 2 ^ 64

-- a span of addresses of 64 bits
pub record IsRange (span : Span) : Type 0 where
  pub proper : IsProper span
  pub ends : span.last < 2 ^ 64

-- the iova, the size and the user address of whole pages
pub record ArePages (page count target iova size address : ℕ) : Type 0 where
  pub from_page : iova ≡ page * 4096
  pub whole_pages : size ≡ count * 4096
  pub to_page : address ≡ target * 4096 + USER_BASE

-- the pages that an update may grant: 1 to 16 with the same number divided by 16, and their target pages
-- below 16384
pub record IsGrant (page count target : ℕ) : Type 0 where
  pub ends : page < 2 ^ 52
  pub some : 1 ≤ count
  pub most : count ≤ 16
  pub one_block : page / 16 ≡ (page + count - 1) / 16
  pub in_memory : target + count ≤ 16384

-- an update permits reading (1), writing (2) or both (3)
pub record IsPermission (permission : ℕ) : Type 0 where
  pub some : 1 ≤ permission
  pub most : permission ≤ 3

-- the iova, the size and the user address of an update are those of whole pages that it may grant
pub record AreGrantFields (iova size address : ℕ) : Type 0 where
  pub from_page : iova % 4096 ≡ 0
  pub whole_pages : size % 4096 ≡ 0
  pub some : 4096 ≤ size
  pub most : size ≤ 65536
  pub one_block : iova / 4096 / 16 ≡ (iova + size - 1) / 4096 / 16
  pub user : USER_BASE ≤ address
  pub to_page : (address - USER_BASE) % 4096 ≡ 0
  pub in_memory : (address - USER_BASE) / 4096 + size / 4096 ≤ 16384

-- the iova and the size of an invalidate are those of a range; 0 and 0 mean all addresses
pub record AreRangeFields (iova size : ℕ) : Type 0 where
  pub all : size ≡ 0 → iova ≡ 0
  pub ends : iova + size ≤ 2 ^ 64
