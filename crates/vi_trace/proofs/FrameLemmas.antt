-- Bytes are one frame, so an event is of one kind.
use Rattle.std.proofs.Common.{◌≡◌, ℕ, List}
use Rattle.vi_bytes.specs.declared.span.Span.{Span}
use Rattle.vi_iotlb.specs.Frames.{ReadAs}
use Rattle.vi_iotlb.specs.declared.frame.Frame.TheVariants as frame
use Rattle.vi_iotlb.proofs.OneReading.{one_frame}
use Rattle.vi_trace.specs.declared.trace.Event.{Event}
use Rattle.vi_trace.specs.declared.trace.Event.TheVariants.{Down, Up, Access}
use Rattle.vi_trace.specs.Lawful.{Invalidates, IsAck, Updates}

-- the parts of an Update that bytes are
pub record SameUpdate (page count target perm page' count' target' perm' : ℕ) : Type 0 where
  pub page_is : page ≡ page'
  pub count_is : count ≡ count'
  pub target_is : target ≡ target'
  pub perm_is : perm ≡ perm'

pub one_update : (bytes : List ℕ) (page count target perm page' count' target' perm' : ℕ) → ReadAs bytes (frame.Update page count target perm)
    → ReadAs bytes (frame.Update page' count' target' perm') → SameUpdate page count target perm page' count' target' perm'
one_update bytes page count target perm page' count' target' perm' p q =
    let same = one_frame bytes (frame.Update page count target perm) (frame.Update page' count' target' perm') p q in
    record { page_is = cc; count_is = cc; target_is = cc; perm_is = cc }

pub one_span : (bytes : List ℕ) (s t : Span) → ReadAs bytes (frame.Invalidate s) → ReadAs bytes (frame.Invalidate t) → s ≡ t
one_span bytes s t p q = let same = one_frame bytes (frame.Invalidate s) (frame.Invalidate t) p q in cc

pub no_update : (bytes : List ℕ) (s : Span) (page count target perm : ℕ) → ReadAs bytes (frame.Invalidate s) → ReadAs bytes (frame.Update page count target perm) → ⊥
no_update bytes s page count target perm p q = let same = one_frame bytes (frame.Invalidate s) (frame.Update page count target perm) p q in cc

-- an event is an Invalidate of one span
pub same_invalidate : (e : Event) (s t : Span) → Invalidates s e → Invalidates t e → s ≡ t
same_invalidate (Down bytes) s t p q = one_span bytes s t p q
same_invalidate (Up bytes) s t p q = absurd p
same_invalidate (Access address need) s t p q = absurd p

-- no Ack updates a page
pub no_ack_updates : (e : Event) (page : ℕ) → IsAck e → Updates page e → ⊥
no_ack_updates (Down bytes) page p q = p
no_ack_updates (Up bytes) page p q = q
no_ack_updates (Access address need) page p q = p
