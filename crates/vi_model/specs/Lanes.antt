-- The frames under way between the device and one back end (vhost-user, IOTLB messages).
use Rattle.std.specs.Prelude.{ℕ, ◌+◌, Bool, List, [], ◌∷◌, Option}
use Rattle.vi_bytes.specs.declared.span.Span.{Span}
use Rattle.vi_bytes.specs.declared.lease.Lease.{Lease}
use Rattle.vi_bytes.specs.declared.lease.Need.{Need}

-- a frame to the back end on the main channel: it may keep this lease, or must forget these addresses, all of them
-- where there is no span
pub data Down : Type 0 where
  Update : (lease : Lease) → Down
  Invalidate : (reach : Option Span) → Down

-- a back end asks for a translation of a part of its line: a Miss, or an AccessFail where `fail` is set
pub record Miss : Type 0 where
  pub line : ℕ
  pub part : ℕ
  pub iova : ℕ
  pub len : ℕ
  pub need : Need
  pub fail : Bool

-- The four lanes of a back end, the oldest frame first: on the main channel what is on its way down, and how many
-- acknowledgements are on their way up; on the back end's channel its misses, and the replies to them, each of which
-- says whether the access faults.
pub record Lanes : Type 0 where
  pub down : List Down
  pub acks : ℕ
  pub up : List Miss
  pub replies : List Bool

-- the reaches of the Invalidates under way
abbrev pub sent_reaches : List Down → List (Option Span)
sent_reaches [] = []
sent_reaches (Update lease ∷ down) = sent_reaches down
sent_reaches (Invalidate reach ∷ down) = reach ∷ sent_reaches down

-- how many Updates are under way
abbrev pub count_updates : List Down → ℕ
count_updates [] = 0
count_updates (Update lease ∷ down) = count_updates down + 1
count_updates (Invalidate reach ∷ down) = count_updates down
