-- What is under way, as frames (vhost-user, IOTLB messages). No frame has the line and the part that a miss is of.
use Rattle.std.specs.Prelude.{◌-◌, ◌^◌, ℕ, Bool, true, false, List, [], ◌∷◌, map, replicate, Option, Some, None}
use Rattle.vi_bytes.specs.declared.span.Span.{Span}
use Rattle.vi_bytes.specs.declared.lease.Need.{Need}
use Rattle.vi_iotlb.specs.declared.frame.Frame.{Frame}
use Rattle.vi_iotlb.specs.declared.frame.Frame.TheVariants as frame
use Rattle.vi_mail.specs.Lanes.{FourLanes}
use Rattle.vi_model.specs.Lanes.{Down, Update, Invalidate, Miss, Lanes}
use Rattle.vi_lanes.specs.declared.miss.Miss.{Miss as CodeMiss}

-- a miss of the code, as the model has it
abbrev pub said : CodeMiss → Miss
said m = record { line = m.line; part = m.part; iova = m.iova; len = m.len; need = m.need; fail = m.fail }

-- all addresses
abbrev pub all_addresses : Span
all_addresses = record { first = 0; last = 2 ^ 64 - 1 }

-- the addresses of a reach, all of them where it is None
abbrev pub span_of : Option Span → Span
span_of None = all_addresses
span_of (Some span) = span

-- the frame of an Update or an Invalidate
abbrev pub down_frame : Down → Frame
down_frame (Update lease) = frame.Update lease.page lease.count lease.target lease.perm
down_frame (Invalidate reach) = frame.Invalidate (span_of reach)

-- the frame that asks: an AccessFail where `fail` is set, and else a Miss
abbrev pub asking_frame : Bool → ℕ → ℕ → Need → Frame
asking_frame true iova len need = frame.AccessFail iova len need
asking_frame false iova len need = frame.Miss iova len need

abbrev pub miss_frame : Miss → Frame
miss_frame m = asking_frame m.fail m.iova m.len m.need

-- the four lanes as frames
abbrev pub lanes_frames : Lanes → FourLanes
lanes_frames lanes = record {
  main_down = map down_frame lanes.down;
  main_up = replicate lanes.acks frame.Ack;
  back_down = map (λ fault. frame.Reply fault) lanes.replies;
  back_up = map miss_frame lanes.up;
}

-- the frame that the back end receives next: of the oldest Update or Invalidate, or else of the oldest reply
abbrev pub reply_frame : List Bool → Option Frame
reply_frame [] = None
reply_frame (fault ∷ replies) = Some (frame.Reply fault)

abbrev pub next_in : List Down → List Bool → Option Frame
next_in [] replies = reply_frame replies
next_in (oldest ∷ down) replies = Some (down_frame oldest)

abbrev pub next_frame : Lanes → Option Frame
next_frame lanes = next_in lanes.down lanes.replies
