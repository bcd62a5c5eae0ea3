-- Where the parts of a split virtqueue of n descriptors stand in its area (Virtio 1.2, 2.7.2). n is a multiple of 16.
use Rattle.std.specs.Prelude.{ℕ, ◌+◌, ◌*◌, ◌%◌}

-- descriptor d: le64 address, le32 length, le16 flags, le16 next (2.7.5)
abbrev pub descriptor_at : ℕ → ℕ
descriptor_at d = 16 * d

-- the available ring: le16 flags, le16 index, n entries of le16, le16 that is not used (2.7.6)
abbrev pub available_index_at : ℕ → ℕ
available_index_at n = 16 * n + 2

abbrev pub available_entry_at : ℕ → ℕ → ℕ
available_entry_at n index = 16 * n + 4 + 2 * (index % n)

-- The used ring: le16 flags, le16 index, n elements of le32 id and le32 length, le16 that is not used (2.7.8). It
-- begins at the next multiple of 4 behind the available ring, which ends at 18 * n + 6.
abbrev pub used_ring_at : ℕ → ℕ
used_ring_at n = 18 * n + 8

abbrev pub used_index_at : ℕ → ℕ
used_index_at n = 18 * n + 10

abbrev pub used_element_at : ℕ → ℕ → ℕ
used_element_at n index = 18 * n + 12 + 8 * (index % n)

-- the buffers, one of `room` bytes for each descriptor
abbrev pub buffer_at : ℕ → ℕ → ℕ → ℕ
buffer_at n room d = 26 * n + 14 + room * d

abbrev pub area_length : ℕ → ℕ → ℕ
area_length n room = buffer_at n room n
