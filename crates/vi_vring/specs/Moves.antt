-- What each call of a ring does.
use Rattle.std.specs.Prelude.{◌≡◌, ◌≤◌, ◌<◌, ◌+◌, ◌-◌, ℕ, ◌==◌, Bool, IsTrue, if◌then◌else◌, List, [], ◌∷◌, ◌++◌, length, take, drop, replicate, max, Option, Some, None, IfSome, Result, Ok, Err, ◌⊎◌, find, All, sum_by, count_by}
use Rattle.std.specs.List.{list_any}
use Rattle.std.specs.Option.{option_map}
use Rattle.vi_vring.specs.declared.chain.Break.{Break}
use Rattle.vi_vring.specs.declared.chain.Chain.{Chain as ChainData}
use Rattle.vi_vring.specs.declared.chain.Popped.{Popped}
use Rattle.vi_vring.specs.declared.chain.Popped.TheVariants.{Chain, Empty, Broken}
use Rattle.vi_vring.specs.declared.walking.Piece.{Piece}
use Rattle.vi_vring.specs.Layout.{area_length}
use Rattle.vi_vring.specs.Shown.{shown}
use Rattle.vi_vring.specs.Parts.{scattered}
use Rattle.vi_vring.specs.Device.{popped_as, area_after_pop, taken_after_pop, used_after}
use Rattle.vi_vring.specs.Values.{Queued, Used, Lists, RingValue}

-- the sizes of a ring
abbrev pub IsRingSize : ℕ → Type 0
IsRingSize n = (n ≡ 16) ⊎ (n ≡ 32) ⊎ (n ≡ 64) ⊎ (n ≡ 128) ⊎ (n ≡ 256)

abbrev pub no_lists : Lists
no_lists = record { available = []; popped = []; used = [] }

abbrev pub new_ring : ℕ → ℕ → ℕ → RingValue
new_ring n reading writing = record {
  size = n;
  reading = reading;
  writing = writing;
  area = replicate (area_length n (max reading writing)) 0;
  taken = 0;
  lists = Some no_lists;
}

-- what was written to the area that was lent, whose length stays
abbrev pub ring_after_area : List ℕ → RingValue → RingValue
ring_after_area bytes v = record v { area = take (length v.area) (bytes ++ drop (length bytes) v.area); lists = None }

-- a queued chain, as it is popped
abbrev pub chain_of : Queued → ChainData
chain_of q = record { head = q.head; read = length q.readable; write = q.writable }

-- the pieces of a chain without a break
abbrev pub pieces_or : Result (List Piece) Break → List Piece
pieces_or (Ok pieces) = pieces
pieces_or (Err fault) = []

abbrev pub pieces_shown : ℕ → List ℕ → ℕ → List Piece
pieces_shown n area head = pieces_or (shown n area head)

-- the area shows this chain, without a break: with these two lengths at this head
abbrev pub ShowsChain : RingValue → ChainData → Type 0
ShowsChain v chain = popped_as chain.head (shown v.size v.area chain.head) ≡ Chain chain

-- as long as the lists are known, the chain is popped and not pushed
abbrev pub is_popped : ChainData → Lists → Bool
is_popped chain l = list_any (λ q. q.head == chain.head) l.popped

abbrev pub IsOut : ChainData → RingValue → Type 0
IsOut chain v = IfSome v.lists (λ l. IsTrue (is_popped chain l))

-- the readable bytes of the popped chain with this head
abbrev pub popped_bytes : ℕ → Lists → Option (List ℕ)
popped_bytes head l = option_map (λ q. q.readable) (find (λ q. q.head == head) l.popped)

-- the area shows each popped chain
abbrev pub ShowsPopped : RingValue → Type 0
ShowsPopped v = IfSome v.lists (λ l. All (λ q. ShowsChain v (chain_of q)) l.popped)

-- a chain becomes available
abbrev pub lists_after_add : ℕ → List ℕ → ℕ → Lists → Lists
lists_after_add head bytes write l = record l { available = l.available ++ (record { head = head; readable = bytes; writable = write }) ∷ [] }

-- the chain is available, and the rest as before; what the driver writes to the area is its own
pub record IsAdded (head : ℕ) (bytes : List ℕ) (write : ℕ) (old new : RingValue) : Type 0 where
  pub lists : new.lists ≡ option_map (lists_after_add head bytes write) old.lists
  pub size : new.size ≡ old.size
  pub reading : new.reading ≡ old.reading
  pub writing : new.writing ≡ old.writing
  pub bytes_stay : length new.area ≡ length old.area
  pub taken : new.taken ≡ old.taken

-- the first available chain is popped
abbrev pub first_popped : List Queued → Popped
first_popped [] = Empty
first_popped (q ∷ rest) = Chain (chain_of q)

abbrev pub moved_first : List Queued → Lists → Lists
moved_first [] l = l
moved_first (q ∷ rest) l = record l { available = rest; popped = l.popped ++ q ∷ [] }

abbrev pub lists_after_pop : Lists → Lists
lists_after_pop l = moved_first l.available l

-- its head is a descriptor, and no popped chain has it
abbrev pub FirstIsFresh : ℕ → Lists → List Queued → Type 0
FirstIsFresh size l [] = Unit {0}
FirstIsFresh size l (q ∷ rest) = (q.head < size) × (count_by (λ p. p.head == q.head) l.popped ≡ 0)

-- a fact of the chain that was popped, if one was
abbrev pub IfChain : Popped → (ChainData → Type 0) → Type 0
IfChain (Chain chain) P = P chain
IfChain Empty P = Unit {0}
IfChain (Broken fault) P = Unit {0}

abbrev pub ring_after_pop : RingValue → RingValue
ring_after_pop v = record v { area = area_after_pop v.size v.taken v.area; taken = taken_after_pop v.size v.area v.taken; lists = option_map lists_after_pop v.lists }

-- a popped chain is used
abbrev pub without_popped : ℕ → List Queued → List Queued
without_popped head [] = []
without_popped head (q ∷ qs) = if q.head == head then qs else q ∷ without_popped head qs

abbrev pub lists_after_push : ChainData → List ℕ → Lists → Lists
lists_after_push chain bytes l = record l {
  popped = without_popped chain.head l.popped;
  used = l.used ++ (record { head = chain.head; read = chain.read; write = chain.write; bytes = bytes }) ∷ [];
}

-- the bytes stand at the start of the writable part, and the chain is returned with their count
unfoldable pub area_after_push : ℕ → ℕ → List ℕ → List ℕ → List ℕ
area_after_push n head bytes area = used_after n head (length bytes) (scattered (pieces_shown n area head) bytes area)

abbrev pub ring_after_push : ChainData → List ℕ → RingValue → RingValue
ring_after_push chain bytes v = record v { area = area_after_push v.size chain.head bytes v.area; lists = option_map (lists_after_push chain bytes) v.lists }

-- a used chain is collected
abbrev pub without_used : ℕ → List Used → List Used
without_used head [] = []
without_used head (u ∷ us) = if u.head == head then us else u ∷ without_used head us

abbrev pub lists_after_collect : ℕ → Lists → Lists
lists_after_collect head l = record l { used = without_used head l.used }

abbrev pub used_with : ℕ → Lists → Option Used
used_with head l = find (λ u. u.head == head) l.used

-- `out` with the bytes of the chain in front
abbrev pub collected_into : Option Used → List ℕ → List ℕ
collected_into None out = out
collected_into (Some u) out = u.bytes ++ drop (length u.bytes) out

abbrev pub ring_after_collect : ℕ → RingValue → RingValue
ring_after_collect head v = record v { lists = option_map (lists_after_collect head) v.lists }

-- so many bytes hold the writable part of the used chain with this head
abbrev pub HoldsUsed : ℕ → ℕ → RingValue → Type 0
HoldsUsed head size v = IfSome v.lists (λ l. IfSome (used_with head l) (λ u. u.write ≤ size))

-- they hold it, or any writable part
abbrev pub HoldsWritable : ℕ → ℕ → RingValue → Type 0
HoldsWritable head size v = (v.writing ≤ size) ⊎ HoldsUsed head size v

-- how many descriptors a chain needs: one for each part that isn't empty
abbrev pub part_needs : ℕ → ℕ
part_needs len = if len == 0 then 0 else 1

abbrev pub chain_needs : ℕ → ℕ → ℕ
chain_needs read write = part_needs read + part_needs write

abbrev pub queued_needs : Queued → ℕ
queued_needs q = chain_needs (length q.readable) q.writable

abbrev pub used_needs : Used → ℕ
used_needs u = chain_needs u.read u.write

-- the descriptors of no chain in the lists
abbrev pub free_count : ℕ → Lists → ℕ
free_count size l = size - (sum_by queued_needs l.available + sum_by queued_needs l.popped + sum_by used_needs l.used)

-- how many chains of the lists have this head
abbrev pub head_count : ℕ → Lists → ℕ
head_count head l = count_by (λ q. q.head == head) l.available + count_by (λ q. q.head == head) l.popped + count_by (λ u. u.head == head) l.used
