-- The places of a ring of 16 descriptors, and that the used ring begins at the next multiple of 4 behind the available
-- ring, which ends at 18 * n + 6.
use Rattle.std.proofs.Common.{◌≡◌, ◌+◌, ◌*◌, ◌/◌, refl}
use Rattle.vi_vring.specs.Layout.{available_index_at, available_entry_at, used_ring_at, used_index_at, used_element_at}

available_index : available_index_at 16 ≡ 258
available_index = refl

available_entry : available_entry_at 16 0 ≡ 260
available_entry = refl

used_index : used_index_at 16 ≡ 298
used_index = refl

used_element : used_element_at 16 0 ≡ 300
used_element = refl

used_ring_16 : used_ring_at 16 ≡ (18 * 16 + 6 + 3) / 4 * 4
used_ring_16 = refl

used_ring_32 : used_ring_at 32 ≡ (18 * 32 + 6 + 3) / 4 * 4
used_ring_32 = refl

used_ring_64 : used_ring_at 64 ≡ (18 * 64 + 6 + 3) / 4 * 4
used_ring_64 = refl

used_ring_128 : used_ring_at 128 ≡ (18 * 128 + 6 + 3) / 4 * 4
used_ring_128 = refl

used_ring_256 : used_ring_at 256 ≡ (18 * 256 + 6 + 3) / 4 * 4
used_ring_256 = refl
