-- IOTLB frames as bytes: the bytes of each frame, and what bytes read as.
use Rattle.std.specs.Prelude.{◌≡◌, ◌≢◌, ◌+◌, ◌*◌, ◌↔◌, ℕ, Bool, true, false, IsTrue, List, [], ◌∷◌, ◌++◌, length}
use Rattle.byteorder.specs.Endian.{little_bytes}
use Rattle.vi_bytes.specs.Parts.{IsTransfer}
use Rattle.vi_bytes.specs.declared.span.Span.{Span}
use Rattle.vi_bytes.specs.declared.lease.Need.{Need}
use Rattle.vi_iotlb.specs.Fields.{request_of, flags_of, payload_size_of, iova_of, size_of, user_address_of, permission_of, type_of, answer_of, permission_for, span_size, IsRange, ArePages, IsGrant, IsPermission}
use Rattle.vi_iotlb.specs.declared.frame.Frame.{Frame}
use Rattle.vi_iotlb.specs.declared.frame.Frame.TheVariants.{Miss, AccessFail, Update, Invalidate, Ack, Reply}
use Rattle.vi_iotlb.specs.declared.frame.TheConstants.{USER_BASE}

-- a frame that can be sent
abbrev pub IsSendable : Frame → Type 0
IsSendable (Miss iova len need) = IsTransfer iova len
IsSendable (AccessFail iova len need) = IsTransfer iova len
IsSendable (Update page count target permission) = IsGrant page count target × IsPermission permission
IsSendable (Invalidate span) = IsRange span
IsSendable Ack = Unit {0}
IsSendable (Reply fault) = Unit {0}

-- a message: a header with these flags, and a payload of 32 bytes of which the last 6 are reserved
abbrev pub message_bytes : ℕ → ℕ → ℕ → ℕ → ℕ → ℕ → ℕ → List ℕ
message_bytes request flags iova size address permission type =
    little_bytes 4 request ++ little_bytes 4 flags ++ little_bytes 4 32 ++ little_bytes 8 iova ++ little_bytes 8 size
    ++ little_bytes 8 address ++ (permission ∷ type ∷ 0 ∷ 0 ∷ 0 ∷ 0 ∷ 0 ∷ 0 ∷ [])

-- a reply: a header with the reply flag, and a payload of 8 bytes
abbrev pub reply_bytes : ℕ → ℕ → List ℕ
reply_bytes request answer = little_bytes 4 request ++ little_bytes 4 5 ++ little_bytes 4 8 ++ little_bytes 8 answer

-- 1 where the access faults
abbrev pub fault_answer : Bool → ℕ
fault_answer true = 1
fault_answer false = 0

-- The bytes of each frame. In the flags 1 is the version, 4 marks a reply and 8 says that one is needed.
unfoldable pub frame_bytes : Frame → List ℕ
frame_bytes (Miss iova len need) = message_bytes 1 9 iova len 0 (permission_for need) 1
frame_bytes (AccessFail iova len need) = message_bytes 1 9 iova len 0 (permission_for need) 4
frame_bytes (Update page count target permission) = message_bytes 22 1 (page * 4096) (count * 4096) (target * 4096 + USER_BASE) permission 2
frame_bytes (Invalidate span) = message_bytes 22 9 span.first (span_size span) 0 0 3
frame_bytes Ack = reply_bytes 22 0
frame_bytes (Reply fault) = reply_bytes 1 (fault_answer fault)

-- how many bytes a frame has
abbrev pub frame_length : Frame → ℕ
frame_length (Miss iova len need) = 44
frame_length (AccessFail iova len need) = 44
frame_length (Update page count target permission) = 44
frame_length (Invalidate span) = 44
frame_length Ack = 20
frame_length (Reply fault) = 20

-- the bytes are a whole frame with this header: all of its payload is there, and no more
pub record HasHeader (request flags size : ℕ) (bytes : List ℕ) : Type 0 where
  pub request_at_0 : request_of bytes ≡ request
  pub flags_at_4 : flags_of bytes ≡ flags
  pub payload_size_at_8 : payload_size_of bytes ≡ size
  pub whole : length bytes ≡ 12 + size

-- the five headers: of a miss or an access fail, of an update, an invalidate, an ack and a reply
abbrev pub AsksHeader : List ℕ → Type 0
AsksHeader bytes = HasHeader 1 9 32 bytes

abbrev pub UpdateHeader : List ℕ → Type 0
UpdateHeader bytes = HasHeader 22 1 32 bytes

abbrev pub InvalidateHeader : List ℕ → Type 0
InvalidateHeader bytes = HasHeader 22 9 32 bytes

abbrev pub AckHeader : List ℕ → Type 0
AckHeader bytes = HasHeader 22 5 8 bytes

abbrev pub ReplyHeader : List ℕ → Type 0
ReplyHeader bytes = HasHeader 1 5 8 bytes

-- the payload asks for a part of a transfer
pub record Asks (type iova len : ℕ) (need : Need) (bytes : List ℕ) : Type 0 where
  pub type_at_37 : type_of bytes ≡ type
  pub permission_at_36 : permission_of bytes ≡ permission_for need
  pub iova_at_12 : iova_of bytes ≡ iova
  pub size_at_20 : size_of bytes ≡ len
  pub part : IsTransfer iova len

-- the payload grants pages
pub record Grants (page count target perm : ℕ) (bytes : List ℕ) : Type 0 where
  pub type_at_37 : type_of bytes ≡ 2
  pub permission_at_36 : permission_of bytes ≡ perm
  pub pages : ArePages page count target (iova_of bytes) (size_of bytes) (user_address_of bytes)
  pub grant : IsGrant page count target
  pub permission : IsPermission perm

-- the payload takes back what was granted in a span
pub record Revokes (span : Span) (bytes : List ℕ) : Type 0 where
  pub type_at_37 : type_of bytes ≡ 3
  pub iova_at_12 : iova_of bytes ≡ span.first
  pub size_at_20 : size_of bytes ≡ span_size span
  pub range : IsRange span

-- the bytes read as this frame
abbrev pub ReadAs : List ℕ → Frame → Type 0
ReadAs bytes (Miss iova len need) = AsksHeader bytes × Asks 1 iova len need bytes
ReadAs bytes (AccessFail iova len need) = AsksHeader bytes × Asks 4 iova len need bytes
ReadAs bytes (Update page count target permission) = UpdateHeader bytes × Grants page count target permission bytes
ReadAs bytes (Invalidate span) = InvalidateHeader bytes × Revokes span bytes
ReadAs bytes Ack = AckHeader bytes × (answer_of bytes ≡ 0)
ReadAs bytes (Reply fault) = ReplyHeader bytes × (IsTrue fault ↔ (answer_of bytes ≢ 0))
