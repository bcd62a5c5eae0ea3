-- The driver's side of the queue: a chain as bytes (Virtio 1.2, 2.7.5 and 2.7.6).
use Rattle.std.specs.Prelude.{◌≡◌, ◌≤◌, ◌<◌, ℕ, ◌+◌, ◌%◌, ◌^◌, nat_lt, if◌then◌else◌, List, ◌++◌}
use Rattle.byteorder.specs.Endian.{little_bytes}
use Rattle.vi_vring.specs.declared.note.Note.{Note}
use Rattle.vi_vring.specs.Layout.{descriptor_at, available_index_at, available_entry_at, buffer_at, area_length}
use Rattle.vi_vring.specs.Writes.{written}
use Rattle.vi_vring.specs.Device.{available_index}

abbrev pub descriptor_bytes : ℕ → ℕ → ℕ → ℕ → List ℕ
descriptor_bytes address len flags next = little_bytes 8 address ++ little_bytes 4 len ++ little_bytes 2 flags ++ little_bytes 2 next

-- the descriptors of the two parts: the writable part stands last, and NEXT leads to it
abbrev pub writable_descriptor : ℕ → ℕ → Note → List ℕ
writable_descriptor n room note = descriptor_bytes (buffer_at n room note.tail) note.write 2 0

abbrev pub readable_flags : ℕ → ℕ
readable_flags write = if nat_lt 0 write then 1 else 0

abbrev pub readable_descriptor : ℕ → ℕ → Note → List ℕ
readable_descriptor n room note = descriptor_bytes (buffer_at n room note.head) note.read (readable_flags note.write) note.tail

abbrev pub writable_laid : ℕ → ℕ → Note → List ℕ → List ℕ
writable_laid n room note area = if nat_lt 0 note.write then written (descriptor_at note.tail) (writable_descriptor n room note) area else area

abbrev pub readable_laid : ℕ → ℕ → Note → List ℕ → List ℕ
readable_laid n room note area = if nat_lt 0 note.read then written (descriptor_at note.head) (readable_descriptor n room note) area else area

-- the chain's entry stands at the place that the available index names, which rises
unfoldable pub offered : ℕ → ℕ → List ℕ → List ℕ
offered n head area =
    written (available_index_at n) (little_bytes 2 ((available_index n area + 1) % 2 ^ 16))
    (written (available_entry_at n (available_index n area)) (little_bytes 2 head) area)

-- the area with a chain made available, whose readable part has these bytes
unfoldable pub placed : ℕ → ℕ → Note → List ℕ → List ℕ → List ℕ
placed n room note bytes area = offered n note.head (readable_laid n room note (writable_laid n room note (written (buffer_at n room note.head) bytes area)))

-- a chain of the table, with bytes that fit its buffer
pub record IsPlaceable (n room : ℕ) (note : Note) (count size : ℕ) : Type 0 where
  pub small : room ≤ 1024
  pub whole : size ≡ area_length n room
  pub head : note.head < n
  pub tail : note.tail < n
  pub fits : count ≤ room
