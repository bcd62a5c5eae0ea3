-- The event buffers, as chains of a ring.
use Rattle.std.specs.Prelude.{◌≡◌, ℕ, ◌+◌, List, [], ◌∷◌, ◌++◌, length, map, Option, Some, None}
use Rattle.std.specs.List.{AllByRecursion}
use Rattle.vi_vring.specs.Values.{Queued, Used, Lists, RingValue}
use Rattle.vi_vring.specs.Moves.{no_lists}

-- so many buffers, and the records in them, the oldest first
pub record HeldRecords : Type 0 where
  pub buffers : ℕ
  pub records : List (List ℕ)

-- one more record
abbrev pub with_record : List ℕ → HeldRecords → HeldRecords
with_record bytes held = record held { records = held.records ++ bytes ∷ [] }

-- a buffer that waits for a record: no readable bytes, and 24 writable ones
pub record IsEmptyBuffer (q : Queued) : Type 0 where
  pub read : q.readable ≡ []
  pub write : q.writable ≡ 24

-- a buffer with a record
pub record IsFullBuffer (u : Used) : Type 0 where
  pub read : u.read ≡ 0
  pub write : u.write ≡ 24
  pub whole : length u.bytes ≡ 24

-- the lists of a ring, where they are known
abbrev pub lists_or : Option Lists → Lists
lists_or None = no_lists
lists_or (Some l) = l

abbrev pub lists_in : RingValue → Lists
lists_in v = lists_or v.lists

-- the records that the used chains have
abbrev pub records_in : Lists → List (List ℕ)
records_in l = map (λ u. u.bytes) l.used

-- The buffers with a record are used, in the order of the records. The others are available, and none is popped.
pub record AreHeld (held : HeldRecords) (l : Lists) : Type 0 where
  pub empty : AllByRecursion IsEmptyBuffer l.available
  pub full : AllByRecursion IsFullBuffer l.used
  pub popped : l.popped ≡ []
  pub records : records_in l ≡ held.records
  pub all : length l.used + length l.available ≡ held.buffers
