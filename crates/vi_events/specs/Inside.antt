-- How the ring of the event buffers is kept.
use Rattle.std.specs.Prelude.{◌≡◌, ◌≤◌, ℕ, ◌+◌, List, [], length, map, Some}
use Rattle.std.specs.VecDeque.{deque_capacity}
use Rattle.std.specs.List.{AllByRecursion}
use Rattle.vi_vring.specs.declared.chain.Head.{Head}
use Rattle.vi_vring.specs.Values.{Used, Lists, RingValue}
use Rattle.vi_events.specs.declared.buffers.Buffers.TheInside.{Inside}
use Rattle.vi_events.specs.Buffers.{HeldRecords, IsEmptyBuffer, IsFullBuffer, lists_in, records_in}

abbrev pub held_in : RingValue → HeldRecords
held_in v = record { buffers = v.size; records = records_in (lists_in v) }

-- the used chain of a buffer with a record
abbrev pub record_chain : ℕ → List ℕ → Used
record_chain head bytes = record { head = head; read = 0; write = 24; bytes = bytes }

-- the chains are event buffers, and none is popped; there are at most so many
pub record AreBuffers (size : ℕ) (l : Lists) : Type 0 where
  pub empty : AllByRecursion IsEmptyBuffer l.available
  pub full : AllByRecursion IsFullBuffer l.used
  pub popped : l.popped ≡ []
  pub few : length l.used + length l.available ≤ size

-- a ring of event buffers, of which some may not be offered yet
pub record IsEventRing (v : RingValue) : Type 0 where
  pub known : v.lists ≡ Some (lists_in v)
  pub reading : v.reading ≡ 0
  pub writing : v.writing ≡ 24
  pub buffers : AreBuffers v.size (lists_in v)

abbrev pub head_numbers : List Head → List ℕ
head_numbers heads = map (λ h. h.0) heads

abbrev pub used_heads : Lists → List ℕ
used_heads l = map (λ u. u.head) l.used

-- each buffer is offered or has a record, and the heads are those of the records' chains
pub record HasHeads (b : Inside) : Type 0 where
  pub events : IsEventRing b.ring
  pub all : length (lists_in b.ring).used + length (lists_in b.ring).available ≡ b.ring.size
  pub heads : head_numbers b.heads.items ≡ used_heads (lists_in b.ring)
  pub room : b.ring.size ≤ deque_capacity b.heads
