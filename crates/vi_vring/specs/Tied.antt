-- How the notes, the area and the lists agree.
use Rattle.std.specs.Prelude.{◌≡◌, ◌≤◌, ℕ, suc, ◌+◌, ◌%◌, ◌^◌, Bool, true, false, if◌then◌else◌, List, [], ◌∷◌, ◌++◌, length, map, Option, Some, None, nat_lt}
use Rattle.vi_bytes.specs.Fields.{field}
use Rattle.vi_vring.specs.declared.note.Note.{Note}
use Rattle.vi_vring.specs.Layout.{descriptor_at, used_element_at, buffer_at, area_length}
use Rattle.vi_vring.specs.Writes.{bytes_at}
use Rattle.vi_vring.specs.Device.{available_index, used_index, head_at}
use Rattle.vi_vring.specs.Driver.{readable_descriptor, writable_descriptor}
use Rattle.vi_vring.specs.Notes.{NoteLists, is_double, Whole}
use Rattle.vi_vring.specs.Values.{Queued, Used, Lists}

-- a chain as contracts see it
abbrev pub queued_of : ℕ → ℕ → List ℕ → Note → Queued
queued_of n room area note = record { head = note.head; readable = bytes_at (buffer_at n room note.head) note.read area; writable = note.write }

abbrev pub used_of : ℕ → ℕ → List ℕ → Note → Used
used_of n room area note = record { head = note.head; read = note.read; write = note.write; bytes = bytes_at (buffer_at n room note.tail) note.len area }

abbrev pub lists_of : ℕ → ℕ → List ℕ → NoteLists → Lists
lists_of n room area v = record {
  available = map (queued_of n room area) v.available;
  popped = map (queued_of n room area) v.popped;
  used = map (used_of n room area) (v.uncollected ++ v.unread);
}

abbrev pub lists_unless : Bool → Lists → Option Lists
lists_unless lent l = if lent then None else Some l

-- each note of the list meets a fact
abbrev pub Each : (Note → Type 0) → List Note → Type 0
Each P [] = Unit {0}
Each P (x ∷ xs) = P x × Each P xs

-- the lengths of a chain: they fit the buffers and aren't both 0, and a chain with one part has one descriptor
pub record IsNote (reading writing : ℕ) (note : Note) : Type 0 where
  pub readable : note.read ≤ reading
  pub writable : note.write ≤ writing
  pub some : 1 ≤ note.read + note.write
  pub returned : note.len ≤ note.write
  pub single : is_double note.read note.write ≡ false → note.tail ≡ note.head

pub record Proper (reading writing : ℕ) (v : NoteLists) : Type 0 where
  pub available : Each (IsNote reading writing) v.available
  pub popped : Each (IsNote reading writing) v.popped
  pub unread : Each (IsNote reading writing) v.unread
  pub uncollected : Each (IsNote reading writing) v.uncollected

-- the descriptor table shows the chain
pub record IsLaid (n room : ℕ) (area : List ℕ) (note : Note) : Type 0 where
  pub readable : nat_lt 0 note.read ≡ true → bytes_at (descriptor_at note.head) 16 area ≡ readable_descriptor n room note
  pub writable : nat_lt 0 note.write ≡ true → bytes_at (descriptor_at note.tail) 16 area ≡ writable_descriptor n room note

-- the available ring shows these chains from an index on, and the used ring
abbrev pub Entries : ℕ → List ℕ → ℕ → List Note → Type 0
Entries n area index [] = Unit {0}
Entries n area index (x ∷ xs) = (head_at n area index ≡ x.head) × Entries n area (suc index) xs

abbrev pub Elements : ℕ → List ℕ → ℕ → List Note → Type 0
Elements n area index [] = Unit {0}
Elements n area index (x ∷ xs) = (field (used_element_at n index) 4 area ≡ x.head) × (field (used_element_at n index + 4) 4 area ≡ x.len) × Elements n area (suc index) xs

pub record Tied (n room : ℕ) (area : List ℕ) (taken seen : ℕ) (v : NoteLists) : Type 0 where
  pub available_index : available_index n area ≡ (taken + length v.available) % 2 ^ 16
  pub entries : Entries n area taken v.available
  pub used_index : used_index n area ≡ (seen + length v.unread) % 2 ^ 16
  pub elements : Elements n area seen v.unread
  pub available : Each (IsLaid n room area) v.available
  pub popped : Each (IsLaid n room area) v.popped

-- what holds of a ring: always, and as long as nobody else wrote to its area
pub record IsSound (n reading writing room : ℕ) (area : List ℕ) (taken seen : ℕ) (lent : Bool) (v : NoteLists) : Type 0 where
  pub some : 16 ≤ n
  pub most : n ≤ 256
  pub divides : 2 ^ 16 % n ≡ 0
  pub table : v.size ≡ n
  pub bytes : length area ≡ area_length n room
  pub small : room ≤ 1024
  pub readable : reading ≤ room
  pub writable : writing ≤ room
  pub whole : Whole v
  pub proper : Proper reading writing v
  pub tied : lent ≡ false → Tied n room area taken seen v
