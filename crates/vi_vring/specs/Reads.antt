-- The used elements that the driver reads (Virtio 1.2, 2.7.8).
use Rattle.std.specs.Prelude.{ℕ, zero, suc, ◌+◌, ◌-◌, ◌%◌, ◌^◌, min, List, length, Option, Some, None}
use Rattle.vi_bytes.specs.Fields.{field}
use Rattle.vi_vring.specs.declared.note.Note.{Note}
use Rattle.vi_vring.specs.Layout.{used_element_at, buffer_at}
use Rattle.vi_vring.specs.Writes.{written, bytes_at}
use Rattle.vi_vring.specs.Notes.{NoteLists, noted_read}

-- how many elements there are from one index to another
abbrev pub index_gap : ℕ → ℕ → ℕ
index_gap from to = (to + 2 ^ 16 - from) % 2 ^ 16

-- the notes after so many elements are read, from an index on
abbrev pub read_from : ℕ → List ℕ → ℕ → ℕ → NoteLists → NoteLists
read_from n area zero index v = v
read_from n area (suc count) index v =
    read_from n area count ((index + 1) % 2 ^ 16) (noted_read (field (used_element_at n index) 4 area) (field (used_element_at n index + 4) 4 area) v)

-- what the device wrote to the chain at the front of `out`, as far as it has room
abbrev pub copied_into : ℕ → ℕ → List ℕ → Option Note → List ℕ → List ℕ
copied_into n room area None out = out
copied_into n room area (Some x) out = written 0 (bytes_at (buffer_at n room x.tail) (min x.len (length out)) area) out
