-- A chain that is laid in the descriptor table is shown.
use Rattle.std.proofs.Common.{◌≡◌, ℕ, ◌+◌, ◌-◌, ◌*◌, ◌^◌, ◌<◌, ◌≤◌, Bool, true, false, not, ◌&&◌, List, [], ◌∷◌, ◌++◌, length, take, drop, Option, Some, None, Result, Ok, refl, ap, sym, ◌∙◌, arith}
use Rattle.std.specs.Prelude.{if◌then◌else◌, nat_lt, bit_and, ◌==◌}
use Rattle.std.proofs.Math.Nat.{mul-le-mul_left}
use Rattle.std.proofs.lemmas.Bool.{le-ltb, or_from}
use Rattle.std.proofs.lemmas.Bool.Decides.{nat_tests}
use Rattle.std.proofs.lemmas.List.{append-nil, drop-take, drop-drop, take-take}
use Rattle.byteorder.specs.Endian.{little_bytes}
use Rattle.byteorder.specs.Numbers.{little_from-take, little_number-reads_back}
use Rattle.vi_bytes.specs.Fields.{field}
use Rattle.vi_vring.specs.declared.chain.Break.{Break}
use Rattle.vi_vring.specs.declared.note.Note.{Note}
use Rattle.vi_vring.specs.declared.walking.Piece.{Piece}
use Rattle.vi_vring.specs.declared.walking.Descriptor.{Descriptor}
use Rattle.vi_vring.specs.Layout.{descriptor_at, buffer_at, area_length}
use Rattle.vi_vring.specs.Writes.{bytes_at}
use Rattle.vi_vring.specs.Shown.{has_flag, piece_at, next_at, is_mixed, passes_memory, read_total, write_total, totals_of, described, walked, shown}
use Rattle.vi_vring.specs.Parts.{readable_bytes}
use Rattle.vi_vring.specs.Driver.{descriptor_bytes, readable_flags}
use Rattle.vi_vring.specs.Notes.{is_double}
use Rattle.vi_vring.specs.Tied.{IsLaid}
use Rattle.vi_vring.proofs.Walks.{shown_start, walked_end, walked_next, cascade}

-- bytes of bytes
pub bytes_within : (at i k m : ℕ) (area : List ℕ) → i + k ≤ m → bytes_at i k (bytes_at at m area) ≡ bytes_at (at + i) k area
bytes_within at i k m area le =
    let split : m ≡ i + (m - i) = omega (arith, le) in
    ap (λ x. take k (drop i (take x (drop at area)))) split
    ∙ ap (take k) (drop-take i (m - i) (drop at area))
    ∙ take-take k (m - i) (drop i (drop at area)) (omega (arith, le))
    ∙ ap (take k) (drop-drop i at area)

pub field_moved : (i j k : ℕ) (a b : List ℕ) → bytes_at i k a ≡ bytes_at j k b → field i k a ≡ field j k b
field_moved i j k a b e = sym (little_from-take 0 k k (drop i a) (omega arith)) ∙ ap (field 0 k) e ∙ little_from-take 0 k k (drop j b) (omega arith)

-- a field of bytes that are known
pub field_in : (at i k m : ℕ) (area known : List ℕ) → i + k ≤ m → bytes_at at m area ≡ known → field (at + i) k area ≡ field i k known
field_in at i k m area known le e = field_moved (at + i) i k area known (sym (bytes_within at i k m area le) ∙ ap (bytes_at i k) e)

-- the fields of a descriptor
module _ (at : ℕ) (area : List ℕ) (address len flags next : ℕ) (e : bytes_at at 16 area ≡ descriptor_bytes address len flags next) where
  pub address_read : address < 2 ^ 64 → field at 8 area ≡ address
  address_read h = field_moved at 0 8 area (descriptor_bytes address len flags next) (sym (bytes_within at 0 8 16 area (omega arith) ∙ ap (λ x. bytes_at x 8 area) zero_more) ∙ ap (bytes_at 0 8) e)
      ∙ little_number-reads_back 8 address (little_bytes 4 len ++ (little_bytes 2 flags ++ little_bytes 2 next)) h
    where
      zero_more : at + 0 ≡ at
      zero_more = omega arith

  pub len_read : len < 2 ^ 32 → field (at + 8) 4 area ≡ len
  len_read h = field_in at 8 4 16 area (descriptor_bytes address len flags next) (omega arith) e ∙ little_number-reads_back 4 len (little_bytes 2 flags ++ little_bytes 2 next) h

  pub flags_read : flags < 2 ^ 16 → field (at + 12) 2 area ≡ flags
  flags_read h = field_in at 12 2 16 area (descriptor_bytes address len flags next) (omega arith) e ∙ little_number-reads_back 2 flags (little_bytes 2 next) h

  pub next_read : next < 2 ^ 16 → field (at + 14) 2 area ≡ next
  next_read h = field_in at 14 2 16 area (descriptor_bytes address len flags next) (omega arith) e ∙ little_number-reads_back 2 next [] h

abbrev described_as : Piece → Option ℕ → Descriptor
described_as p o = record { piece = p; next = o }

-- a descriptor with these fields, which breaks nothing
described_ok : (area : List ℕ) (d : ℕ) (before : List Piece) (a l f x : ℕ) (w : Bool) (next : Option ℕ)
    → field (descriptor_at d) 8 area ≡ a → field (descriptor_at d + 8) 4 area ≡ l → field (descriptor_at d + 12) 2 area ≡ f → field (descriptor_at d + 14) 2 area ≡ x
    → not (bit_and f 4 == 0) ≡ false → not (bit_and f 2 == 0) ≡ w → (if not (bit_and f 1 == 0) then Some x else None) ≡ next
    → is_mixed (record { address = a; len = l; writes = w }) (totals_of before) ≡ false → passes_memory area (record { address = a; len = l; writes = w }) (totals_of before) ≡ false
    → Ok (record { piece = record { address = a; len = l; writes = w }; next = next }) ≡ described area d (totals_of before)
described_ok area d before a l f x w next ea el ef ex g4 gw gn mixed memory =
    let piece : piece_at d area ≡ record { address = a; len = l; writes = w } = rw (ea, el, ef, gw) refl in
    let goes : next_at d area ≡ next = rw (ef, ex) gn in
    let indirect : has_flag 4 d area ≡ false = rw ef g4 in
    ap (λ p. Ok (described_as p next)) (sym piece) ∙ ap (λ o. Ok (described_as (piece_at d area) o)) (sym goes)
    ∙ sym (cascade (has_flag 4 d area) (is_mixed (piece_at d area) (totals_of before)) (passes_memory area (piece_at d area) (totals_of before)) (described_as (piece_at d area) (next_at d area)) indirect
    (ap (λ p. is_mixed p (totals_of before)) piece ∙ mixed) (ap (λ p. passes_memory area p (totals_of before)) piece ∙ memory))

-- the pieces of a chain
abbrev pub readable_piece : ℕ → ℕ → Note → Piece
readable_piece n room note = record { address = buffer_at n room note.head; len = note.read; writes = false }

abbrev pub writable_piece : ℕ → ℕ → Note → Piece
writable_piece n room note = record { address = buffer_at n room note.tail; len = note.write; writes = true }

abbrev pub pieces_by : Bool → Bool → Piece → Piece → List Piece
pieces_by true true r w = r ∷ w ∷ []
pieces_by true false r w = r ∷ []
pieces_by false true r w = w ∷ []
pieces_by false false r w = []

abbrev pub pieces_of : ℕ → ℕ → Note → List Piece
pieces_of n room note = pieces_by (nat_lt 0 note.read) (nat_lt 0 note.write) (readable_piece n room note) (writable_piece n room note)

-- the flags that the driver writes
next_flag : (b : Bool) (x : ℕ) → (if not (bit_and (if b then 1 else 0) 1 == 0) then Some x else None) ≡ (if b then Some x else None)
next_flag true x = refl
next_flag false x = refl

no_write : (b : Bool) → not (bit_and (if b then 1 else 0) 2 == 0) ≡ false
no_write true = refl
no_write false = refl

no_indirect : (b : Bool) → not (bit_and (if b then 1 else 0) 4 == 0) ≡ false
no_indirect true = refl
no_indirect false = refl

small_flag : (b : Bool) → (if b then 1 else 0) < 2 ^ 16
small_flag true = omega arith
small_flag false = omega arith

-- a ring of n descriptors with buffers of `room` bytes, in an area of such a length
pub record IsTable (n room size : ℕ) : Type 0 where
  pub some : 16 ≤ n
  pub most : n ≤ 256
  pub small : room ≤ 1024
  pub bytes : size ≡ area_length n room

-- the buffer of a descriptor lies in the area
pub buffer_end : (n room size d : ℕ) → IsTable n room size → d < n → buffer_at n room d + room ≤ size
buffer_end n room size d t lt =
    let s : d + 1 ≤ n = omega (arith, lt) in
    let h : room * (d + 1) ≤ room * n = mul-le-mul_left room s in
    omega (arith, h, t.bytes)

buffer_small : (n room d : ℕ) → n ≤ 256 → room ≤ 1024 → d < n → buffer_at n room d < 2 ^ 64
buffer_small n room d p q lt =
    let s : d ≤ 256 = omega (arith, lt, p) in
    let h : room * d ≤ room * 256 = mul-le-mul_left room s in
    omega (arith, h, p, q)

module _ (n room : ℕ) (area : List ℕ) (note : Note) (t : IsTable n room (length area)) (head : note.head < n) (tail : note.tail < n) (reads : note.read ≤ room) (writes : note.write ≤ room) (laid : IsLaid n room area note) where
  described_readable : nat_lt 0 note.read ≡ true → Ok (record { piece = readable_piece n room note; next = if nat_lt 0 note.write then Some note.tail else None }) ≡ described area note.head (totals_of [])
  described_readable some =
      let e = laid.readable some in
      let a = buffer_at n room note.head in
      let f = readable_flags note.write in
      let end = buffer_end n room (length area) note.head t head in
      described_ok area note.head [] a note.read f note.tail false (if nat_lt 0 note.write then Some note.tail else None)
      (address_read (descriptor_at note.head) area a note.read f note.tail e (buffer_small n room note.head t.most t.small head))
      (len_read (descriptor_at note.head) area a note.read f note.tail e (omega (arith, reads, t.small)))
      (flags_read (descriptor_at note.head) area a note.read f note.tail e (small_flag (nat_lt 0 note.write)))
      (next_read (descriptor_at note.head) area a note.read f note.tail e (omega (arith, tail, t.most)))
      (no_indirect (nat_lt 0 note.write)) (no_write (nat_lt 0 note.write)) (next_flag (nat_lt 0 note.write) note.tail) refl
      (or_from (nat_lt (length area) (a + note.read)) (nat_lt 1024 (0 + note.read)) (le-ltb (length area) (a + note.read) (omega (arith, end, reads))) (le-ltb 1024 (0 + note.read) (omega (arith, reads, t.small))))

  described_writable : (before : List Piece) → write_total before ≡ 0 → nat_lt 0 note.write ≡ true → Ok (record { piece = writable_piece n room note; next = None }) ≡ described area note.tail (totals_of before)
  described_writable before none some =
      let e = laid.writable some in
      let a = buffer_at n room note.tail in
      let end = buffer_end n room (length area) note.tail t tail in
      described_ok area note.tail before a note.write 2 0 true None
      (address_read (descriptor_at note.tail) area a note.write 2 0 e (buffer_small n room note.tail t.most t.small tail))
      (len_read (descriptor_at note.tail) area a note.write 2 0 e (omega (arith, writes, t.small)))
      (flags_read (descriptor_at note.tail) area a note.write 2 0 e (omega arith))
      (next_read (descriptor_at note.tail) area a note.write 2 0 e (omega arith))
      refl refl refl refl
      (or_from (nat_lt (length area) (a + note.write)) (nat_lt 1024 (write_total before + note.write)) (le-ltb (length area) (a + note.write) (omega (arith, end, writes))) (le-ltb 1024 (write_total before + note.write) (omega (arith, none, writes, t.small))))

  pub shown_laid : 1 ≤ note.read + note.write → (is_double note.read note.write ≡ false → note.tail ≡ note.head) → shown n area note.head ≡ Ok (pieces_of n room note)
  shown_laid some single = go (nat_lt 0 note.read) (nat_lt 0 note.write) refl refl
    where
      begin : {r : Result (List Piece) Break} → walked n area (n - 0) note.head [] ≡ r → shown n area note.head ≡ r
      begin e = sym (shown_start n area note.head [] refl) ∙ e

      go : (b c : Bool) → nat_lt 0 note.read ≡ b → nat_lt 0 note.write ≡ c → shown n area note.head ≡ Ok (pieces_by b c (readable_piece n room note) (writable_piece n room note))
      go true true p q =
          begin (walked_next n area 0 note.head [] (omega (arith, t.some)) head (record { piece = readable_piece n room note; next = if nat_lt 0 note.write then Some note.tail else None }) note.tail (described_readable p) (ap (λ b. if b then Some note.tail else None) q)
          ∙ walked_end n area 1 note.tail (readable_piece n room note ∷ []) (omega (arith, t.some)) tail (record { piece = writable_piece n room note; next = None }) (described_writable (readable_piece n room note ∷ []) refl q) refl)
      go true false p q =
          begin (walked_end n area 0 note.head [] (omega (arith, t.some)) head (record { piece = readable_piece n room note; next = if nat_lt 0 note.write then Some note.tail else None }) (described_readable p) (ap (λ b. if b then Some note.tail else None) q))
      go false true p q =
          let same : note.tail ≡ note.head = single (ap (λ b. b && nat_lt 0 note.write) p) in
          begin (walked_end n area 0 note.head [] (omega (arith, t.some)) head (record { piece = writable_piece n room note; next = None }) (described_writable [] refl q ∙ ap (λ d. described area d (totals_of [])) same) refl)
      go false false p q = absurd (grind (arith, nat_tests))

-- the lengths of its parts
pub by_true : (b : Bool) (m : ℕ) → nat_lt 0 m ≡ b → b ≡ false → m ≡ 0
by_true b m e f = grind (arith, nat_tests)

pub totals_laid : (n room : ℕ) (note : Note) → (read_total (pieces_of n room note) ≡ note.read) × (write_total (pieces_of n room note) ≡ note.write)
totals_laid n room note = go (nat_lt 0 note.read) (nat_lt 0 note.write) refl refl
  where
    go : (b c : Bool) → nat_lt 0 note.read ≡ b → nat_lt 0 note.write ≡ c
        → (read_total (pieces_by b c (readable_piece n room note) (writable_piece n room note)) ≡ note.read) × (write_total (pieces_by b c (readable_piece n room note) (writable_piece n room note)) ≡ note.write)
    go true true p q = (omega arith, omega arith)
    go true false p q = (omega arith, let z = by_true false note.write q refl in omega (arith, z))
    go false true p q = (let z = by_true false note.read p refl in omega (arith, z), omega arith)
    go false false p q = (let z = by_true false note.read p refl in omega (arith, z), let z = by_true false note.write q refl in omega (arith, z))

-- the bytes of its readable part
pub readable_laid_bytes : (n room : ℕ) (area : List ℕ) (note : Note) → readable_bytes area (pieces_of n room note) ≡ bytes_at (buffer_at n room note.head) note.read area
readable_laid_bytes n room area note = go (nat_lt 0 note.read) (nat_lt 0 note.write) refl
  where
    go : (b c : Bool) → nat_lt 0 note.read ≡ b → readable_bytes area (pieces_by b c (readable_piece n room note) (writable_piece n room note)) ≡ bytes_at (buffer_at n room note.head) note.read area
    go true true p = append-nil (bytes_at (buffer_at n room note.head) note.read area)
    go true false p = append-nil (bytes_at (buffer_at n room note.head) note.read area)
    go false true p = let z = by_true false note.read p refl in ap (λ k. bytes_at (buffer_at n room note.head) k area) (sym z)
    go false false p = let z = by_true false note.read p refl in ap (λ k. bytes_at (buffer_at n room note.head) k area) (sym z)
