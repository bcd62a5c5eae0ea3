-- The bytes of a chain's two parts.
use Rattle.std.specs.Prelude.{ℕ, if◌then◌else◌, List, [], ◌∷◌, take, drop}
use Rattle.std.specs.List.{flat_map}
use Rattle.vi_vring.specs.declared.walking.Piece.{Piece}
use Rattle.vi_vring.specs.Writes.{written, bytes_at}

-- the bytes of a piece, where it is readable
abbrev pub readable_of : List ℕ → Piece → List ℕ
readable_of area p = if p.writes then [] else bytes_at p.address p.len area

-- the readable part: the readable pieces, one after the other
abbrev pub readable_bytes : List ℕ → List Piece → List ℕ
readable_bytes area pieces = flat_map (readable_of area) pieces

-- how many bytes the piece takes of what is written to the chain
abbrev pub share : Piece → ℕ
share p = if p.writes then p.len else 0

-- the area with these bytes at the start of the writable part: each piece takes its share, in order
abbrev pub scattered : List Piece → List ℕ → List ℕ → List ℕ
scattered [] bytes area = area
scattered (p ∷ ps) bytes area = scattered ps (drop (share p) bytes) (written p.address (take (share p) bytes) area)
