-- The device's side of the queue (Virtio 1.2, 2.7.6 and 2.7.8), over an area of any content.
use Rattle.std.specs.Prelude.{◌≤◌, ℕ, ◌+◌, ◌*◌, ◌%◌, ◌^◌, ◌==◌, if◌then◌else◌, List, ◌++◌, Result, Ok, Err}
use Rattle.byteorder.specs.Endian.{little_bytes}
use Rattle.vi_bytes.specs.Fields.{field}
use Rattle.vi_vring.specs.declared.chain.Break.{Break}
use Rattle.vi_vring.specs.declared.chain.Popped.{Popped}
use Rattle.vi_vring.specs.declared.chain.Popped.TheVariants.{Chain, Empty, Broken}
use Rattle.vi_vring.specs.declared.walking.Piece.{Piece}
use Rattle.vi_vring.specs.Layout.{available_index_at, available_entry_at, used_index_at, used_element_at}
use Rattle.vi_vring.specs.Writes.{written}
use Rattle.vi_vring.specs.Shown.{shown, read_total, write_total}

-- a ring of n descriptors has room in so many bytes
pub record IsRoomy (n bytes : ℕ) : Type 0 where
  pub some : 16 ≤ n
  pub most : n ≤ 256
  pub rings : 26 * n + 14 ≤ bytes

-- an element of the used ring: le32 id, le32 length
abbrev pub used_element : ℕ → ℕ → List ℕ
used_element id len = little_bytes 4 id ++ little_bytes 4 len

-- the index that the driver, and the one that the device, writes next
abbrev pub available_index : ℕ → List ℕ → ℕ
available_index n area = field (available_index_at n) 2 area

abbrev pub used_index : ℕ → List ℕ → ℕ
used_index n area = field (used_index_at n) 2 area

-- the area with a chain returned as used: its element stands at the place that the used index names, which rises
unfoldable pub used_after : ℕ → ℕ → ℕ → List ℕ → List ℕ
used_after n id len area =
    written (used_index_at n) (little_bytes 2 ((used_index n area + 1) % 2 ^ 16))
    (written (used_element_at n (used_index n area)) (used_element id len) area)

-- the head in the available entry with this index
abbrev pub head_at : ℕ → List ℕ → ℕ → ℕ
head_at n area index = field (available_entry_at n index) 2 area

-- what the walk along the chain comes to
abbrev pub popped_as : ℕ → Result (List Piece) Break → Popped
popped_as head (Ok pieces) = Chain (record { head = head; read = read_total pieces; write = write_total pieces })
popped_as head (Err fault) = Broken fault

-- what is popped after `taken` entries: nothing where that is the available index
unfoldable pub popped_of : ℕ → List ℕ → ℕ → Popped
popped_of n area taken =
    if available_index n area == taken then Empty else popped_as (head_at n area taken) (shown n area (head_at n area taken))

-- a chain with a break is returned as used with length 0
abbrev pub returned_broken : ℕ → ℕ → Popped → List ℕ → List ℕ
returned_broken n head (Chain chain) area = area
returned_broken n head Empty area = area
returned_broken n head (Broken fault) area = used_after n head 0 area

unfoldable pub area_after_pop : ℕ → ℕ → List ℕ → List ℕ
area_after_pop n taken area = returned_broken n (head_at n area taken) (popped_of n area taken) area

-- an entry counts as taken whether its chain has a break or not
abbrev pub taken_by : Popped → ℕ → ℕ
taken_by (Chain chain) taken = (taken + 1) % 2 ^ 16
taken_by Empty taken = taken
taken_by (Broken fault) taken = (taken + 1) % 2 ^ 16

unfoldable pub taken_after_pop : ℕ → List ℕ → ℕ → ℕ
taken_after_pop n area taken = taken_by (popped_of n area taken) taken
