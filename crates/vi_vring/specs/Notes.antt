-- The driver's notes on its chains, as lists.
use Rattle.std.specs.Prelude.{◌≡◌, ◌≤◌, ◌<◌, ℕ, zero, suc, ◌+◌, ◌-◌, ◌==◌, Bool, ◌&&◌, nat_lt, min, if◌then◌else◌, List, [], ◌∷◌, ◌++◌, length, take, slice_index, Option, Some, None, find}
use Rattle.vi_vring.specs.declared.chain.Popped.{Popped}
use Rattle.vi_vring.specs.declared.chain.Popped.TheVariants.{Chain, Empty, Broken}
use Rattle.vi_vring.specs.declared.note.Note.{Note}

-- the free descriptors, and the chains that are available, popped, returned and not read, read and not collected
pub record NoteLists : Type 0 where
  pub size : ℕ
  pub free : List ℕ
  pub available : List Note
  pub popped : List Note
  pub unread : List Note
  pub uncollected : List Note

abbrev pub has_head : ℕ → Note → Bool
has_head head note = note.head == head

-- the notes without the first that has this head
abbrev pub without : ℕ → List Note → List Note
without head [] = []
without head (x ∷ xs) = if has_head head x then xs else x ∷ without head xs

-- a chain with two parts has two descriptors
abbrev pub is_double : ℕ → ℕ → Bool
is_double read write = nat_lt 0 read && nat_lt 0 write

abbrev pub needs_of : ℕ → ℕ → ℕ
needs_of read write = if is_double read write then 2 else 1

abbrev pub needs : Note → ℕ
needs note = needs_of note.read note.write

-- the chain's descriptors, as they are given back
abbrev pub descriptors : Note → List ℕ
descriptors note = if is_double note.read note.write then note.head ∷ note.tail ∷ [] else note.head ∷ []

-- no chain, and the descriptors below n free
abbrev pub up_to : ℕ → List ℕ
up_to zero = []
up_to (suc n) = up_to n ++ n ∷ []

abbrev pub no_notes : ℕ → NoteLists
no_notes n = record { size = n; free = up_to n; available = []; popped = []; unread = []; uncollected = [] }

-- a chain with these lengths, of the last free descriptors
abbrev pub note_for : ℕ → ℕ → NoteLists → Note
note_for read write v = record {
  head = slice_index v.free (length v.free - 1);
  tail = slice_index v.free (length v.free - needs_of read write);
  read = read;
  write = write;
  len = 0;
}

-- the moves of a chain
abbrev pub noted_add : Note → NoteLists → NoteLists
noted_add note v = record v { free = take (length v.free - needs note) v.free; available = v.available ++ note ∷ [] }

abbrev pub popped_if : Bool → Note → List Note → NoteLists → NoteLists
popped_if b note rest v = if b then record v { available = rest; popped = v.popped ++ note ∷ [] } else v

abbrev pub popped_first : ℕ → List Note → NoteLists → NoteLists
popped_first head [] v = v
popped_first head (note ∷ rest) v = popped_if (has_head head note) note rest v

abbrev pub noted_pop : ℕ → NoteLists → NoteLists
noted_pop head v = popped_first head v.available v

abbrev pub noted_popped : Popped → NoteLists → NoteLists
noted_popped (Chain chain) v = noted_pop chain.head v
noted_popped Empty v = v
noted_popped (Broken fault) v = v

abbrev pub returned : ℕ → ℕ → Option Note → NoteLists → NoteLists
returned head len None v = v
returned head len (Some note) v = record v { popped = without head v.popped; unread = v.unread ++ (record note { len = min len note.write }) ∷ [] }

abbrev pub noted_push : ℕ → ℕ → NoteLists → NoteLists
noted_push head len v = returned head len (find (has_head head) v.popped) v

abbrev pub read_back : ℕ → ℕ → Option Note → NoteLists → NoteLists
read_back head len None v = v
read_back head len (Some note) v = record v { unread = without head v.unread; uncollected = v.uncollected ++ (record note { len = min len note.write }) ∷ [] }

abbrev pub noted_read : ℕ → ℕ → NoteLists → NoteLists
noted_read head len v = read_back head len (find (has_head head) v.unread) v

abbrev pub freed : ℕ → Option Note → NoteLists → NoteLists
freed head None v = v
freed head (Some note) v = record v { uncollected = without head v.uncollected; free = v.free ++ descriptors note }

abbrev pub noted_collect : ℕ → NoteLists → NoteLists
noted_collect head v = freed head (find (has_head head) v.uncollected) v

-- the sum over a list
abbrev pub tally : {A : Type 0} → (A → ℕ) → List A → ℕ
tally f [] = 0
tally f (x ∷ xs) = f x + tally f xs

-- the sum over the notes of all chains
abbrev pub tally_all : (Note → ℕ) → NoteLists → ℕ
tally_all f v = tally f v.available + tally f v.popped + tally f v.unread + tally f v.uncollected

abbrev pub one : ℕ → ℕ → ℕ
one d e = if e == d then 1 else 0

-- how often the chain uses a descriptor
abbrev pub uses : ℕ → Note → ℕ
uses d note = one d note.head + (if is_double note.read note.write then one d note.tail else 0)

-- how often a descriptor is free or in use
abbrev pub times : ℕ → NoteLists → ℕ
times d v = tally (one d) v.free + tally_all (uses d) v

-- Each descriptor of the table is free or one chain's, once.
pub record Whole (v : NoteLists) : Type 0 where
  pub once : (d : ℕ) → times d v ≤ 1
  pub below : (d : ℕ) → 0 < times d v → d < v.size
  pub all : length v.free + tally_all needs v ≡ v.size
