-- What an area of any content shows: the chain that begins at a descriptor, or its break (Virtio 1.2, 2.7.5).
use Rattle.std.specs.Prelude.{◌≤◌, ℕ, zero, suc, ◌+◌, ◌==◌, Bool, true, not, ◌&&◌, ◌||◌, nat_lt, nat_le, bit_and, if◌then◌else◌, List, [], ◌∷◌, ◌++◌, length, Option, Some, None, Result, Ok, Err, sum_by, All}
use Rattle.std.specs.List.{list_any}
use Rattle.vi_bytes.specs.Fields.{field}
use Rattle.vi_vring.specs.Layout.{descriptor_at}
use Rattle.vi_vring.specs.declared.chain.Break.{Break}
use Rattle.vi_vring.specs.declared.chain.Break.TheVariants.{Outside, Loop, Indirect, Mixed, Memory}
use Rattle.vi_vring.specs.declared.walking.Piece.{Piece}
use Rattle.vi_vring.specs.declared.walking.Descriptor.{Descriptor}
use Rattle.vi_vring.specs.declared.walking.Totals.{Totals}

-- the flags of a descriptor: NEXT 1, WRITE 2, INDIRECT 4
abbrev pub has_flag : ℕ → ℕ → List ℕ → Bool
has_flag flag d area = not (bit_and (field (descriptor_at d + 12) 2 area) flag == 0)

-- the buffer of a descriptor
abbrev pub piece_at : ℕ → List ℕ → Piece
piece_at d area = record { address = field (descriptor_at d) 8 area; len = field (descriptor_at d + 8) 4 area; writes = has_flag 2 d area }

-- the descriptor that its `next` names, where the flag NEXT is set
abbrev pub next_at : ℕ → List ℕ → Option ℕ
next_at d area = if has_flag 1 d area then Some (field (descriptor_at d + 14) 2 area) else None

-- how many bytes the readable and the writable pieces have
abbrev pub read_total : List Piece → ℕ
read_total pieces = sum_by (λ p. if p.writes then 0 else p.len) pieces

abbrev pub write_total : List Piece → ℕ
write_total pieces = sum_by (λ p. if p.writes then p.len else 0) pieces

-- what of the pieces counts for the next descriptor: the bytes of both parts, and whether one is writable
abbrev pub totals_of : List Piece → Totals
totals_of pieces = record { read = read_total pieces; write = write_total pieces; has_writable = list_any (λ p. p.writes) pieces }

-- the totals with one more piece
abbrev pub counted : Piece → Totals → Totals
counted p t = if p.writes then record { read = t.read; write = t.write + p.len; has_writable = true } else record { read = t.read + p.len; write = t.write; has_writable = t.has_writable }

-- the bytes of the piece's part that stand before it
abbrev pub part_total : Piece → Totals → ℕ
part_total p t = if p.writes then t.write else t.read

-- the piece is readable and a writable one stands before it
abbrev pub is_mixed : Piece → Totals → Bool
is_mixed p t = not p.writes && t.has_writable

-- the piece passes the end of the area, or its part has more than 1024 bytes with it
abbrev pub passes_memory : List ℕ → Piece → Totals → Bool
passes_memory area p t = nat_lt (length area) (p.address + p.len) || nat_lt 1024 (part_total p t + p.len)

-- a descriptor behind pieces with these totals, or its break
abbrev pub described : List ℕ → ℕ → Totals → Result Descriptor Break
described area d t =
    if has_flag 4 d area then Err Indirect
    else if is_mixed (piece_at d area) t then Err Mixed
    else if passes_memory area (piece_at d area) t then Err Memory
    else Ok (record { piece = piece_at d area; next = next_at d area })

-- the chain goes on at the next descriptor, or ends
abbrev pub followed : Option ℕ → List Piece → (ℕ → List Piece → Result (List Piece) Break) → Result (List Piece) Break
followed None pieces rest = Ok pieces
followed (Some next) pieces rest = rest next pieces

abbrev pub onward : Result Descriptor Break → List Piece → (ℕ → List Piece → Result (List Piece) Break) → Result (List Piece) Break
onward (Err b) before rest = Err b
onward (Ok d) before rest = followed d.next (before ++ d.piece ∷ []) rest

-- the pieces of the chain from a descriptor on, behind those before it, with `left` descriptors at most
abbrev pub walked : ℕ → List ℕ → ℕ → ℕ → List Piece → Result (List Piece) Break
walked n area zero d before = if nat_le n d then Err Outside else Err Loop
walked n area (suc left) d before = if nat_le n d then Err Outside else onward (described area d (totals_of before)) before (walked n area left)

-- the pieces of the chain that begins at this descriptor, in order, or its break
unfoldable pub shown : ℕ → List ℕ → ℕ → Result (List Piece) Break
shown n area head = walked n area n head []

-- the totals of a chain, or its break
abbrev pub surveyed : Result (List Piece) Break → Result Totals Break
surveyed (Ok pieces) = Ok (totals_of pieces)
surveyed (Err fault) = Err fault

-- each part has at most 1024 bytes
pub record IsSmall (t : Totals) : Type 0 where
  pub readable : t.read ≤ 1024
  pub writable : t.write ≤ 1024

-- the pieces lie in the area, and each part has at most 1024 bytes
pub record Fits (area : List ℕ) (pieces : List Piece) : Type 0 where
  pub within : All (λ p. p.address + p.len ≤ length area) pieces
  pub readable : read_total pieces ≤ 1024
  pub writable : write_total pieces ≤ 1024
