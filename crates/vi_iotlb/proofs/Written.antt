-- What is written for a frame reads as that frame.
use Rattle.std.proofs.Common.{◌≡◌, ◌≢◌, ◌<◌, ◌+◌, ◌*◌, ◌^◌, ◌↔◌, ℕ, Bool, true, false, IsTrue, List, [], ◌∷◌, ◌++◌, length, refl, arith}
use Rattle.byteorder.specs.Endian.{little_bytes}
use Rattle.byteorder.specs.Numbers.{little_number-reads_back}
use Rattle.vi_bytes.specs.declared.span.Span.{Span}
use Rattle.vi_bytes.specs.declared.lease.Need.{Need}
use Rattle.vi_bytes.specs.Parts.{IsTransfer}
use Rattle.vi_iotlb.specs.Fields.{iova_of, size_of, user_address_of, answer_of, permission_for, span_size}
use Rattle.vi_iotlb.specs.Frames.{IsSendable, message_bytes, reply_bytes, frame_bytes, frame_length, fault_answer, HasHeader, Asks, ReadAs}
use Rattle.vi_iotlb.specs.declared.frame.Frame.{Frame}
use Rattle.vi_iotlb.specs.declared.frame.Frame.TheVariants.{Miss, AccessFail, Update, Invalidate, Ack, Reply}
use Rattle.vi_iotlb.specs.declared.frame.TheConstants.{USER_BASE}

module _ (request flags iova size address permission type : ℕ) where
  bytes : List ℕ
  bytes = message_bytes request flags iova size address permission type

  message_header : request < 2 ^ 32 → flags < 2 ^ 32 → HasHeader request flags 32 bytes
  unfolding bytes
  message_header r f = record {
    request_at_0 = little_number-reads_back 4 request (little_bytes 4 flags ++ (little_bytes 4 32 ++ (little_bytes 8 iova ++ (little_bytes 8 size ++ (little_bytes 8 address ++ (permission ∷ type ∷ 0 ∷ 0 ∷ 0 ∷ 0 ∷ 0 ∷ 0 ∷ [])))))) r;
    flags_at_4 = little_number-reads_back 4 flags (little_bytes 4 32 ++ (little_bytes 8 iova ++ (little_bytes 8 size ++ (little_bytes 8 address ++ (permission ∷ type ∷ 0 ∷ 0 ∷ 0 ∷ 0 ∷ 0 ∷ 0 ∷ []))))) f;
    payload_size_at_8 = refl;
    whole = refl;
  }

  message_iova : iova < 2 ^ 64 → iova_of bytes ≡ iova
  unfolding bytes
  message_iova h = little_number-reads_back 8 iova (little_bytes 8 size ++ (little_bytes 8 address ++ (permission ∷ type ∷ 0 ∷ 0 ∷ 0 ∷ 0 ∷ 0 ∷ 0 ∷ []))) h

  message_size : size < 2 ^ 64 → size_of bytes ≡ size
  unfolding bytes
  message_size h = little_number-reads_back 8 size (little_bytes 8 address ++ (permission ∷ type ∷ 0 ∷ 0 ∷ 0 ∷ 0 ∷ 0 ∷ 0 ∷ [])) h

  message_address : address < 2 ^ 64 → user_address_of bytes ≡ address
  unfolding bytes
  message_address h = little_number-reads_back 8 address (permission ∷ type ∷ 0 ∷ 0 ∷ 0 ∷ 0 ∷ 0 ∷ 0 ∷ []) h

reply_header : (request answer : ℕ) → request < 2 ^ 32 → HasHeader request 5 8 (reply_bytes request answer)
reply_header request answer r = record {
  request_at_0 = little_number-reads_back 4 request (little_bytes 4 5 ++ (little_bytes 4 8 ++ little_bytes 8 answer)) r;
  flags_at_4 = refl;
  payload_size_at_8 = refl;
  whole = refl;
}

asks : (type iova len : ℕ) (need : Need) → IsTransfer iova len → Asks type iova len need (message_bytes 1 9 iova len 0 (permission_for need) type)
unfolding bytes
asks type iova len need p = record {
  type_at_37 = refl;
  permission_at_36 = refl;
  iova_at_12 = message_iova 1 9 iova len 0 (permission_for need) type (omega arith);
  size_at_20 = message_size 1 9 iova len 0 (permission_for need) type (omega arith);
  part = p;
}

small_answer : (fault : Bool) → IsTrue fault ↔ (answer_of (reply_bytes 1 (fault_answer fault)) ≢ 0)
small_answer true = (λ t. omega arith, λ n. refl)
small_answer false = (λ t. cc, λ n. absurd (n refl))

span_size_below : (span : Span) → span_size span < 2 ^ 64
span_size_below span = omega arith

pub ReadAs-frame_bytes : (frame : Frame) → IsSendable frame → ReadAs (frame_bytes frame) frame
unfolding frame_bytes bytes
ReadAs-frame_bytes (Miss iova len need) p = (message_header 1 9 iova len 0 (permission_for need) 1 (omega arith) (omega arith), asks 1 iova len need p)
ReadAs-frame_bytes (AccessFail iova len need) p = (message_header 1 9 iova len 0 (permission_for need) 4 (omega arith) (omega arith), asks 4 iova len need p)
ReadAs-frame_bytes (Update page count target perm) p =
    let iova = page * 4096 in
    let size = count * 4096 in
    let address = target * 4096 + USER_BASE in (
      message_header 22 1 iova size address perm 2 (omega arith) (omega arith),
      record {
        type_at_37 = refl;
        permission_at_36 = refl;
        pages = record {
          from_page = message_iova 22 1 iova size address perm 2 (omega arith);
          whole_pages = message_size 22 1 iova size address perm 2 (omega arith);
          to_page = message_address 22 1 iova size address perm 2 (omega arith);
        };
        grant = p.0;
        permission = p.1;
      },
    )
ReadAs-frame_bytes (Invalidate span) p = (
  message_header 22 9 span.first (span_size span) 0 0 3 (omega arith) (omega arith),
  record {
    type_at_37 = refl;
    iova_at_12 = message_iova 22 9 span.first (span_size span) 0 0 3 (omega (arith, p.proper, p.ends));
    size_at_20 = message_size 22 9 span.first (span_size span) 0 0 3 (span_size_below span);
    range = p;
  },
)
ReadAs-frame_bytes Ack p = (reply_header 22 0 (omega arith), refl)
ReadAs-frame_bytes (Reply fault) p = (reply_header 1 (fault_answer fault) (omega arith), small_answer fault)

pub length-frame_bytes : (frame : Frame) → length (frame_bytes frame) ≡ frame_length frame
unfolding frame_bytes
length-frame_bytes (Miss iova len need) = refl
length-frame_bytes (AccessFail iova len need) = refl
length-frame_bytes (Update page count target perm) = refl
length-frame_bytes (Invalidate span) = refl
length-frame_bytes Ack = refl
length-frame_bytes (Reply fault) = refl
