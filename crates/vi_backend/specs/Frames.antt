-- What a back end does with a frame.
use Rattle.std.specs.Prelude.{◌≡◌, ◌-◌, ◌^◌, ℕ, Bool, true, Option, Some, None}
use Rattle.vi_bytes.specs.declared.lease.Lease.{Lease}
use Rattle.vi_bytes.specs.declared.span.Span.{Span}
use Rattle.vi_iotlb.specs.declared.frame.Frame.{Frame}
use Rattle.vi_iotlb.specs.declared.frame.Frame.TheVariants as frame
use Rattle.vi_model.specs.Lanes.{Down, Update, Invalidate}
use Rattle.vi_model.specs.Caches.{put, untouched}
use Rattle.vi_model.specs.Backs.{Seat, with_cache, replied}

-- a frame that the device sends: an Update, an Invalidate, or a Reply where a miss is open
abbrev pub IsFor : Bool → Frame → Type 0
IsFor asking (frame.Miss iova len need) = ⊥
IsFor asking (frame.AccessFail iova len need) = ⊥
IsFor asking (frame.Update page count target perm) = Unit {0}
IsFor asking (frame.Invalidate span) = Unit {0}
IsFor asking frame.Ack = ⊥
IsFor asking (frame.Reply fault) = asking ≡ true

-- it acknowledges an Invalidate, and answers no other frame
abbrev pub answer_to : Frame → Option Frame
answer_to (frame.Miss iova len need) = None
answer_to (frame.AccessFail iova len need) = None
answer_to (frame.Update page count target perm) = None
answer_to (frame.Invalidate span) = Some frame.Ack
answer_to frame.Ack = None
answer_to (frame.Reply fault) = None

abbrev pub lease_in : ℕ → ℕ → ℕ → ℕ → Lease
lease_in page count target perm = record { page = page; count = count; target = target; perm = perm }

-- An Update is cached, an Invalidate is forgotten, and a Reply closes the miss.
abbrev pub after : ℕ → Frame → Seat → Seat
after capacity (frame.Miss iova len need) z = z
after capacity (frame.AccessFail iova len need) z = z
after capacity (frame.Update page count target perm) z = with_cache z (put capacity (lease_in page count target perm) z.cache)
after capacity (frame.Invalidate span) z = with_cache z (untouched (Some span) z.cache)
after capacity frame.Ack z = z
after capacity (frame.Reply fault) z = replied z fault

-- all addresses
abbrev pub all_addresses : Span
all_addresses = record { first = 0; last = 2 ^ 64 - 1 }

-- the addresses of a reach, all of them where it is None
abbrev pub span_of : Option Span → Span
span_of None = all_addresses
span_of (Some span) = span

-- what is under way to a back end, as a frame
abbrev pub down_frame : Down → Frame
down_frame (Update lease) = frame.Update lease.page lease.count lease.target lease.perm
down_frame (Invalidate reach) = frame.Invalidate (span_of reach)
