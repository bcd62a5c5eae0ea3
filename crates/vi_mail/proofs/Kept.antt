-- What is kept of a frame is that frame.
use Rattle.std.proofs.Common.{◌≡◌, ◌<◌, ◌≤◌, ◌+◌, ◌-◌, ◌/◌, ◌%◌, ◌^◌, ◌↔◌, ◌≢◌, ℕ, Bool, true, false, not, eqb, IsTrue, List, [], ◌∷◌, ◌++◌, length, take, refl, ap, sym, ◌∙◌, arith}
use Rattle.std.proofs.Math.Seq.{take-append_seam}
use Rattle.std.proofs.lemmas.Bool.Decides.{nat_tests}
use Rattle.vi_bytes.specs.declared.span.Span.{Span}
use Rattle.vi_bytes.specs.declared.lease.Need.{Need}
use Rattle.vi_bytes.specs.declared.lease.Need.TheVariants.{Read, Write}
use Rattle.vi_iotlb.specs.Fields.{permission_for, span_size, IsRange, iova_of, size_of, user_address_of, answer_of}
use Rattle.vi_iotlb.specs.Frames.{IsSendable, ReadAs, frame_bytes, frame_length}
use Rattle.vi_iotlb.specs.declared.frame.Frame.{Frame}
use Rattle.vi_iotlb.specs.declared.frame.Frame.TheVariants.{Miss, AccessFail, Update, Invalidate, Ack, Reply}
use Rattle.vi_iotlb.specs.declared.frame.TheConstants.{USER_BASE}
use Rattle.vi_iotlb.proofs.Written.{ReadAs-frame_bytes, length-frame_bytes}
use Rattle.vi_mail.specs.Coding.{frame_of, need_of}
use Rattle.vi_mail.specs.Lanes.{oldest_bytes}

need_of-permission_for : (need : Need) → need_of (permission_for need) ≡ need
need_of-permission_for Read = refl
need_of-permission_for Write = refl

last-is : (span : Span) → IsRange span → span.first + (span_size span + (2 ^ 64 - 1)) % 2 ^ 64 ≡ span.last
last-is span range =
    let proper : span.first ≤ span.last = range.proper in
    let ends : span.last < 2 ^ 64 = range.ends in
    omega arith

answer-is : (fault : Bool) (answer : ℕ) → IsTrue fault ↔ (answer ≢ 0) → not (eqb answer 0) ≡ fault
answer-is true answer says = let some : answer ≢ 0 = says.0 refl in grind (arith, nat_tests)
answer-is false answer says = go (eqb answer 0) refl
  where
    go : (b : Bool) → eqb answer 0 ≡ b → not b ≡ false
    go true e = refl
    go false e = let some : answer ≢ 0 = grind (arith, nat_tests) in absurd (cc (says.1 some))

-- bytes that read as a frame are kept for it
pub frame_of-from_ReadAs : (bytes : List ℕ) (frame : Frame) → ReadAs bytes frame → frame_of bytes ≡ frame
unfolding frame_of
frame_of-from_ReadAs bytes (Miss iova len need) reads =
    rw (reads.0.flags_at_4, reads.0.request_at_0, reads.1.type_at_37, reads.1.iova_at_12, reads.1.size_at_20, reads.1.permission_at_36) (ap (Miss iova len) (need_of-permission_for need))
frame_of-from_ReadAs bytes (AccessFail iova len need) reads =
    rw (reads.0.flags_at_4, reads.0.request_at_0, reads.1.type_at_37, reads.1.iova_at_12, reads.1.size_at_20, reads.1.permission_at_36) (ap (AccessFail iova len) (need_of-permission_for need))
frame_of-from_ReadAs bytes (Update page count target permission) reads =
    let pages : iova_of bytes / 4096 ≡ page = omega (arith, reads.1.pages.from_page) in
    let counted : size_of bytes / 4096 ≡ count = omega (arith, reads.1.pages.whole_pages) in
    let targets : (user_address_of bytes - USER_BASE) / 4096 ≡ target = omega (arith, reads.1.pages.to_page) in
    rw (reads.0.flags_at_4, pages, counted, targets, reads.1.permission_at_36) refl
frame_of-from_ReadAs bytes (Invalidate span) reads =
    rw (reads.0.flags_at_4, reads.0.request_at_0, reads.1.iova_at_12, reads.1.size_at_20, last-is span reads.1.range) refl
frame_of-from_ReadAs bytes Ack reads = rw (reads.0.flags_at_4, reads.0.request_at_0) refl
frame_of-from_ReadAs bytes (Reply fault) reads = rw (reads.0.flags_at_4, reads.0.request_at_0) (ap Reply (answer-is fault (answer_of bytes) reads.1))

pub frame_of-frame_bytes : (frame : Frame) → IsSendable frame → frame_of (frame_bytes frame) ≡ frame
frame_of-frame_bytes frame sendable = frame_of-from_ReadAs (frame_bytes frame) frame (ReadAs-frame_bytes frame sendable)

-- the bytes at the front are the frame's
pub kept-is : (frame : Frame) (len : ℕ) (bytes rest : List ℕ) → len ≡ frame_length frame → bytes ≡ frame_bytes frame ++ rest → take len bytes ≡ frame_bytes frame
kept-is frame len bytes rest long written =
    let all : len ≡ length (frame_bytes frame) = long ∙ sym (length-frame_bytes frame) in
    rw (written, all) (take-append_seam (frame_bytes frame) rest)

frame_length-some : (frame : Frame) → 0 < frame_length frame
frame_length-some (Miss iova len need) = omega arith
frame_length-some (AccessFail iova len need) = omega arith
frame_length-some (Update page count target permission) = omega arith
frame_length-some (Invalidate span) = omega arith
frame_length-some Ack = omega arith
frame_length-some (Reply fault) = omega arith

frame_bytes-some : (frame : Frame) → frame_bytes frame ≡ [] → ⊥
frame_bytes-some frame none = let some = frame_length-some frame in let long = length-frame_bytes frame in let no : length (frame_bytes frame) ≡ 0 = ap length none in omega arith

-- the oldest frame has bytes
pub oldest_bytes-empty : (frames : List Frame) → (oldest_bytes frames ≡ []) ↔ (frames ≡ [])
oldest_bytes-empty [] = (λ none. refl, λ none. refl)
oldest_bytes-empty (frame ∷ frames) = (λ none. absurd (frame_bytes-some frame none), λ none. absurd (cc))
