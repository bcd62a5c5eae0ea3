-- Fields of byte formats, by what their bytes read as, the lowest byte first.
use Rattle.std.specs.Prelude.{◌≡◌, ℕ, List, drop, take, slice_index, replicate}
use Rattle.byteorder.specs.Endian.{little_number}

-- the number that the n bytes at this offset read as
abbrev pub field : ℕ → ℕ → List ℕ → ℕ
field at n bytes = little_number n (drop at bytes)

-- the byte at this offset
abbrev pub byte_at : ℕ → List ℕ → ℕ
byte_at at bytes = slice_index bytes at

-- the n bytes at this offset are 0
abbrev pub AreZero : ℕ → ℕ → List ℕ → Type 0
AreZero at n bytes = take n (drop at bytes) ≡ replicate n 0
