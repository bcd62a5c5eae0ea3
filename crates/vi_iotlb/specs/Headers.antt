-- Which header a frame has.
use Rattle.std.specs.Prelude.{List, ℕ}
use Rattle.vi_iotlb.specs.Frames.{AsksHeader, UpdateHeader, InvalidateHeader, AckHeader, ReplyHeader}
use Rattle.vi_iotlb.specs.declared.reading.Header.{Header}
use Rattle.vi_iotlb.specs.declared.reading.Header.TheVariants.{Asks, Update, Invalidate, Ack, Reply}

-- the bytes are a whole frame with this header
abbrev pub Begins : Header → List ℕ → Type 0
Begins Asks bytes = AsksHeader bytes
Begins Update bytes = UpdateHeader bytes
Begins Invalidate bytes = InvalidateHeader bytes
Begins Ack bytes = AckHeader bytes
Begins Reply bytes = ReplyHeader bytes
