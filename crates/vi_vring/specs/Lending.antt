-- What a ring is after its area was lent.
use Rattle.std.specs.Prelude.{ℕ, List}
use Rattle.std.specs.Borrow.{Lends, MutBor, Fml, Array, u8}
use Rattle.vi_vring.specs.Values.{RingValue}
use Rattle.vi_vring.specs.Moves.{ring_after_area}
use Rattle.vi_vring.specs.contracts.ring.Ring.{the_row}

-- the ring has the bytes that were written last behind the result
abbrev pub LendsArea : MutBor RingValue → MutBor (List ℕ) → Fml
LendsArea s r = Lends the_row (Array u8 0) s r (λ bytes. ring_after_area bytes s.now)
