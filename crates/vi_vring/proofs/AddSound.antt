-- A chain added to a sound ring.
use Rattle.std.proofs.Common.{◌≡◌, ◌≢◌, ℕ, ◌+◌, ◌-◌, ◌*◌, ◌%◌, ◌^◌, ◌<◌, ◌≤◌, inl, inr, Bool, true, false, ◌&&◌, List, [], ◌∷◌, ◌++◌, length, get_or, map, Some, refl, ap, sym, subst, ◌∙◌, arith}
use Rattle.std.specs.Prelude.{IfSome, nat_lt, if◌then◌else◌}
use Rattle.std.specs.Option.{option_map}
use Rattle.std.proofs.Math.Nat.{mod-lt}
use Rattle.std.proofs.lemmas.List.{map-append, length-append}
use Rattle.std.proofs.lemmas.Bool.Decides.{nat_tests}
use Rattle.byteorder.specs.Endian.{little_bytes}
use Rattle.byteorder.specs.Numbers.{little_number-reads_back}
use Rattle.vi_vring.specs.declared.note.Note.{Note}
use Rattle.vi_vring.specs.Layout.{descriptor_at, available_index_at, available_entry_at, used_index_at, used_element_at, buffer_at}
use Rattle.vi_vring.specs.Writes.{written, bytes_at}
use Rattle.vi_vring.specs.Device.{available_index, head_at}
use Rattle.vi_vring.specs.Driver.{readable_descriptor, writable_descriptor, readable_laid, writable_laid, offered, placed, IsPlaceable}
use Rattle.vi_vring.specs.Moves.{lists_after_add, head_count}
use Rattle.vi_vring.specs.Notes.{NoteLists, is_double, needs, needs_of, note_for, tally, tally_all, one, uses, noted_add}
use Rattle.vi_vring.specs.Tied.{Each, IsNote, IsLaid, IsSound, Tied, queued_of, used_of, lists_of, lists_unless}
use Rattle.vi_vring.proofs.NoteLemmas.{available_room}
use Rattle.vi_vring.proofs.Wholes.{taken, whole_add}
use Rattle.vi_vring.proofs.Members.{Each-push, proper_add, uses_head, uses_tail}
use Rattle.vi_vring.proofs.Rings.{wrapped_place, entry_place}
use Rattle.vi_vring.proofs.Frames.{Apart, apart_by, descriptors_apart, bytes_apart, bytes_written, length-written, field_same}
use Rattle.vi_vring.proofs.Laid.{field_moved, IsTable, buffer_end}
use Rattle.vi_vring.proofs.UsedRing.{element_end, same8}
use Rattle.vi_vring.proofs.Keeps.{not_head, not_tail, queued_keep, used_keep, laid_keep, Entries_keep, Entries_push, Elements_keep, places_apart}
use Rattle.vi_vring.proofs.Counts.{fresh_known}
use Rattle.vi_vring.proofs.Sounds.{table, note_head, note_tail}

-- what a write that is made or not keeps
kept_if : (b : Bool) (w at k : ℕ) (bs area : List ℕ) → w + length bs ≤ length area → Apart at k w (length bs) → bytes_at at k (if b then written w bs area else area) ≡ bytes_at at k area
kept_if true w at k bs area le p = bytes_apart at k w bs area le p
kept_if false w at k bs area le p = refl

length_if : (b : Bool) (w : ℕ) (bs area : List ℕ) → w + length bs ≤ length area → length (if b then written w bs area else area) ≡ length area
length_if true w bs area le = length-written w bs area le
length_if false w bs area le = refl

written_if : (b : Bool) (w : ℕ) (bs area : List ℕ) → w + length bs ≤ length area → b ≡ true → bytes_at w (length bs) (if b then written w bs area else area) ≡ bs
written_if true w bs area le = λ e. bytes_written w bs area le
written_if false w bs area le = λ e. absurd cc

kept_unless : (b : Bool) (w at k : ℕ) (bs area : List ℕ) → w + length bs ≤ length area → (b ≡ true → Apart at k w (length bs)) → bytes_at at k (if b then written w bs area else area) ≡ bytes_at at k area
kept_unless true w at k bs area le p = bytes_apart at k w bs area le (p refl)
kept_unless false w at k bs area le p = refl

both : (b c : Bool) → b ≡ true → c ≡ true → b && c ≡ true
both true true p q = refl
both true false p q = absurd cc
both false c p q = absurd cc

-- a chain placed in an area
module _ (n room : ℕ) (note : Note) (bytes area : List ℕ) (some : 16 ≤ n) (t : IsTable n room (length area)) (head : note.head < n) (tail : note.tail < n) (short : length bytes ≤ room)
    (double : is_double note.read note.write ≡ true → note.tail ≢ note.head) where
  a1 : List ℕ
  a1 = written (buffer_at n room note.head) bytes area

  a2 : List ℕ
  a2 = writable_laid n room note a1

  a3 : List ℕ
  a3 = readable_laid n room note a2

  a4 : List ℕ
  a4 = written (available_entry_at n (available_index n a3)) (little_bytes 2 note.head) a3

  positive : 0 < n
  positive = omega (arith, some)

  fit1 : buffer_at n room note.head + length bytes ≤ length area
  fit1 = let e = buffer_end n room (length area) note.head t head in omega (arith, e, short)

  len1 : length a1 ≡ length area
  unfolding a1
  len1 = length-written (buffer_at n room note.head) bytes area fit1

  fit2 : descriptor_at note.tail + 16 ≤ length a1
  fit2 = omega (arith, len1, t.bytes, tail)

  len2 : length a2 ≡ length area
  unfolding a2
  len2 = length_if (nat_lt 0 note.write) (descriptor_at note.tail) (writable_descriptor n room note) a1 fit2 ∙ len1

  fit3 : descriptor_at note.head + 16 ≤ length a2
  fit3 = omega (arith, len2, t.bytes, head)

  len3 : length a3 ≡ length area
  unfolding a3
  len3 = length_if (nat_lt 0 note.read) (descriptor_at note.head) (readable_descriptor n room note) a2 fit3 ∙ len2

  entry_end : (i : ℕ) → available_entry_at n i + 2 ≤ 18 * n + 4
  entry_end i = let m = mod-lt i positive in omega (arith, m)

  fit4 : available_entry_at n (available_index n a3) + 2 ≤ length a3
  fit4 = let e = entry_end (available_index n a3) in omega (arith, len3, t.bytes, e)

  len4 : length a4 ≡ length area
  unfolding a4
  len4 = length-written (available_entry_at n (available_index n a3)) (little_bytes 2 note.head) a3 fit4 ∙ len3

  fit5 : available_index_at n + 2 ≤ length a4
  fit5 = omega (arith, len4, t.bytes)

  pub length_placed : length (placed n room note bytes area) ≡ length area
  unfolding placed offered a4 a3 a2 a1
  length_placed = length-written (available_index_at n) (little_bytes 2 ((available_index n a3 + 1) % 2 ^ 16)) a4 fit5 ∙ len4

  -- what lies apart from the five writes stays
  keep3 : (at k : ℕ) → Apart at k (buffer_at n room note.head) (length bytes) → Apart at k (descriptor_at note.tail) 16 → Apart at k (descriptor_at note.head) 16 → bytes_at at k a3 ≡ bytes_at at k area
  unfolding a3 a2 a1
  keep3 at k p q r =
      kept_if (nat_lt 0 note.read) (descriptor_at note.head) at k (readable_descriptor n room note) a2 fit3 r
      ∙ kept_if (nat_lt 0 note.write) (descriptor_at note.tail) at k (writable_descriptor n room note) a1 fit2 q
      ∙ bytes_apart at k (buffer_at n room note.head) bytes area fit1 p

  keep5 : (at k : ℕ) → Apart at k (available_entry_at n (available_index n a3)) 2 → Apart at k (available_index_at n) 2 → bytes_at at k (placed n room note bytes area) ≡ bytes_at at k a3
  unfolding placed offered a4 a3 a2 a1
  keep5 at k p q =
      bytes_apart at k (available_index_at n) (little_bytes 2 ((available_index n a3 + 1) % 2 ^ 16)) a4 fit5 q
      ∙ bytes_apart at k (available_entry_at n (available_index n a3)) (little_bytes 2 note.head) a3 fit4 p

  index_stays : available_index n a3 ≡ available_index n area
  index_stays = field_same (available_index_at n) 2 a3 area (keep3 (available_index_at n) 2 (inl (omega arith)) (inr (omega (arith, tail))) (inr (omega (arith, head))))

  -- the other descriptors, the other buffers, the other entries and the used ring
  pub table_kept : (e : ℕ) → (e < n) × (e ≢ note.head) × (e ≢ note.tail) → bytes_at (descriptor_at e) 16 (placed n room note bytes area) ≡ bytes_at (descriptor_at e) 16 area
  table_kept e h =
      let lt : e < n = h.0 in
      keep5 (descriptor_at e) 16 (inl (omega (arith, lt))) (inl (omega (arith, lt)))
      ∙ keep3 (descriptor_at e) 16 (inl (omega (arith, lt))) (descriptors_apart e note.tail h.2) (descriptors_apart e note.head h.1)

  pub buffers_kept : (e k : ℕ) → e ≢ note.head → k ≤ room → bytes_at (buffer_at n room e) k (placed n room note bytes area) ≡ bytes_at (buffer_at n room e) k area
  buffers_kept e k ne le =
      let end = entry_end (available_index n a3) in
      keep5 (buffer_at n room e) k (inr (omega (arith, end))) (inr (omega arith))
      ∙ keep3 (buffer_at n room e) k (apart_by room (26 * n + 14) e note.head k (length bytes) ne le short) (inr (omega (arith, tail))) (inr (omega (arith, head)))

  pub used_kept : (at k : ℕ) → 18 * n + 8 ≤ at → at + k ≤ 26 * n + 14 → bytes_at at k (placed n room note bytes area) ≡ bytes_at at k area
  used_kept at k lo hi =
      let end = entry_end (available_index n a3) in
      keep5 at k (inr (omega (arith, end, lo))) (inr (omega (arith, lo)))
      ∙ keep3 at k (inl (omega (arith, hi))) (inr (omega (arith, tail, lo))) (inr (omega (arith, head, lo)))

  pub entries_kept : (i : ℕ) → i % n ≢ available_index n area % n → head_at n (placed n room note bytes area) i ≡ head_at n area i
  entries_kept i ne =
      let ne' : i % n ≢ available_index n a3 % n = subst (λ j. i % n ≢ j % n) (sym index_stays) ne in
      let end = entry_end i in
      field_same (available_entry_at n i) 2 (placed n room note bytes area) area
      (keep5 (available_entry_at n i) 2 (apart_by 2 (16 * n + 4) (i % n) (available_index n a3 % n) 2 2 ne' (omega arith) (omega arith)) (inr (omega arith))
      ∙ keep3 (available_entry_at n i) 2 (inl (omega (arith, end))) (inr (omega (arith, tail))) (inr (omega (arith, head))))

  -- and what was written
  pub bytes_placed : bytes_at (buffer_at n room note.head) (length bytes) (placed n room note bytes area) ≡ bytes
  unfolding a3 a2 a1
  bytes_placed =
      let end = entry_end (available_index n a3) in
      keep5 (buffer_at n room note.head) (length bytes) (inr (omega (arith, end))) (inr (omega arith))
      ∙ kept_if (nat_lt 0 note.read) (descriptor_at note.head) (buffer_at n room note.head) (length bytes) (readable_descriptor n room note) a2 fit3 (inr (omega (arith, head)))
      ∙ kept_if (nat_lt 0 note.write) (descriptor_at note.tail) (buffer_at n room note.head) (length bytes) (writable_descriptor n room note) a1 fit2 (inr (omega (arith, tail)))
      ∙ bytes_written (buffer_at n room note.head) bytes area fit1

  reads : nat_lt 0 note.read ≡ true → bytes_at (descriptor_at note.head) 16 (placed n room note bytes area) ≡ readable_descriptor n room note
  unfolding a3
  reads e =
      keep5 (descriptor_at note.head) 16 (inl (omega (arith, head))) (inl (omega (arith, head)))
      ∙ written_if (nat_lt 0 note.read) (descriptor_at note.head) (readable_descriptor n room note) a2 fit3 e

  writes : nat_lt 0 note.write ≡ true → bytes_at (descriptor_at note.tail) 16 (placed n room note bytes area) ≡ writable_descriptor n room note
  unfolding a3 a2
  writes e =
      let ne : nat_lt 0 note.read ≡ true → note.tail ≢ note.head = λ f. double (both (nat_lt 0 note.read) (nat_lt 0 note.write) f e) in
      keep5 (descriptor_at note.tail) 16 (inl (omega (arith, tail))) (inl (omega (arith, tail)))
      ∙ kept_unless (nat_lt 0 note.read) (descriptor_at note.head) (descriptor_at note.tail) 16 (readable_descriptor n room note) a2 fit3 (λ f. descriptors_apart note.tail note.head (ne f))
      ∙ written_if (nat_lt 0 note.write) (descriptor_at note.tail) (writable_descriptor n room note) a1 fit2 e

  pub laid_placed : IsLaid n room (placed n room note bytes area) note
  laid_placed = record { readable = reads; writable = writes }

  pub index_placed : available_index n (placed n room note bytes area) ≡ (available_index n area + 1) % 2 ^ 16
  unfolding placed offered a4 a3 a2 a1
  index_placed =
      let x = (available_index n a3 + 1) % 2 ^ 16 in
      let small : x < 2 ^ 16 = mod-lt (available_index n a3 + 1) (let p : 0 < 2 ^ 16 = omega arith in p) in
      field_moved (available_index_at n) 0 2 (placed n room note bytes area) (little_bytes 2 x) (bytes_written (available_index_at n) (little_bytes 2 x) a4 fit5)
      ∙ little_number-reads_back 2 x [] small ∙ ap (λ i. (i + 1) % 2 ^ 16) index_stays

  pub entry_placed : n ≤ 256 → head_at n (placed n room note bytes area) (available_index n area) ≡ note.head
  unfolding placed offered a4 a3 a2 a1
  entry_placed most =
      let at = available_entry_at n (available_index n a3) in
      let end = entry_end (available_index n a3) in
      ap (λ i. head_at n (placed n room note bytes area) i) (sym index_stays)
      ∙ field_moved at 0 2 (placed n room note bytes area) (little_bytes 2 note.head)
      (bytes_apart at 2 (available_index_at n) (little_bytes 2 ((available_index n a3 + 1) % 2 ^ 16)) a4 fit5 (inr (omega arith)) ∙ bytes_written at (little_bytes 2 note.head) a3 fit4)
      ∙ little_number-reads_back 2 note.head [] (omega (arith, head, most))

-- a chain added to a ring: its descriptors were free
module _ (n reading writing room : ℕ) (area : List ℕ) (taken_count seen : ℕ) (lent : Bool) (v : NoteLists) (s : IsSound n reading writing room area taken_count seen lent v)
    (note : Note) (p : IsNote reading writing note) (le : needs note ≤ length v.free) (h : note.head ≡ get_or v.free (length v.free - 1) 0) (t : note.tail ≡ get_or v.free (length v.free - needs note) 0) where
  -- the descriptors that it uses
  were_free : (d : ℕ) → uses d note ≤ tally (one d) v.free
  were_free d = omega (arith, taken (one d) v.free (is_double note.read note.write) note.head note.tail le h t)

  none_uses : (d : ℕ) → 1 ≤ uses d note → tally_all (uses d) v ≡ 0
  none_uses d q = omega (arith, q, were_free d, s.whole.once d)

  pub head_fresh : tally_all (uses note.head) v ≡ 0
  head_fresh = none_uses note.head (uses_head note)

  tail_fresh : tally_all (uses note.tail) v ≡ 0
  tail_fresh = none_uses note.tail (uses_tail reading writing note p)

  pub head_below : note.head < n
  head_below = let b : note.head < v.size = s.whole.below note.head (omega (arith, uses_head note, were_free note.head)) in omega (arith, b, s.table)

  pub tail_below : note.tail < n
  tail_below = let b : note.tail < v.size = s.whole.below note.tail (omega (arith, uses_tail reading writing note p, were_free note.tail)) in omega (arith, b, s.table)

  apart : is_double note.read note.write ≡ true → note.tail ≢ note.head
  apart e f =
      let two : uses note.head note ≡ one note.head note.head + one note.head note.tail = ap (λ b. one note.head note.head + (if b then one note.head note.tail else 0)) e in
      let same = ap (λ d. one note.head d) f in
      absurd (omega (arith, two, same, one_one note.head, were_free note.head, s.whole.once note.head))
    where
      one_one : (d : ℕ) → one d d ≡ 1
      one_one d = grind (arith, nat_tests)

  tabled : IsTable n room (length area)
  tabled = table n reading writing room area taken_count seen lent v s

  module _ (bytes : List ℕ) (fits : length bytes ≡ note.read) where
    short : length bytes ≤ room
    short = omega (arith, fits, p.readable, s.readable)

    pub length_after_add : length (placed n room note bytes area) ≡ length area
    length_after_add = length_placed n room note bytes area s.some tabled head_below tail_below short apart

    -- the chains of a list lie in the table, and use neither descriptor
    others : (ys : List Note) → Each (IsNote reading writing) ys → ((d : ℕ) → tally (uses d) ys ≤ tally_all (uses d) v)
        → Each (λ y. ((y.head < n) × (y.head ≢ note.head) × (y.head ≢ note.tail)) × ((y.tail < n) × (y.tail ≢ note.head) × (y.tail ≢ note.tail))) ys
    others [] q k = tt
    others (y ∷ ys) q k =
        let one_of : (d : ℕ) → uses d y ≤ tally_all (uses d) v = λ d. omega (arith, k d) in
        let zh : uses note.head y ≡ 0 = omega (arith, one_of note.head, head_fresh) in
        let zt : uses note.tail y ≡ 0 = omega (arith, one_of note.tail, tail_fresh) in (
          (
            (note_head n reading writing room area taken_count seen lent v s y q.0 one_of, not_head note.head y zh, not_head note.tail y zt),
            (note_tail n reading writing room area taken_count seen lent v s y q.0 one_of, not_tail reading writing note.head y q.0 zh, not_tail reading writing note.tail y q.0 zt),
          ),
          others ys q.1 (λ d. omega (arith, k d)),
        )

    laid_others : (ys : List Note) → Each (IsNote reading writing) ys → ((d : ℕ) → tally (uses d) ys ≤ tally_all (uses d) v) → Each (IsLaid n room area) ys → Each (IsLaid n room (placed n room note bytes area)) ys
    laid_others ys q k l =
        laid_keep n room area (placed n room note bytes area) (λ e. (e < n) × (e ≢ note.head) × (e ≢ note.tail)) (table_kept n room note bytes area s.some tabled head_below tail_below short apart) ys (others ys q k) l

    tied_add : Tied n room area taken_count seen v → Tied n room (placed n room note bytes area) taken_count seen (noted_add note v)
    tied_add q =
        let some : 0 < n = omega (arith, s.some) in
        let index : available_index n area % n ≡ (taken_count + length v.available) % n = ap (λ i. i % n) q.available_index ∙ wrapped_place n (taken_count + length v.available) s.divides in
        let left = available_room v s.whole note.read note.write le in
        let more = length-append v.available (note ∷ []) in
        record {
          available_index = index_placed n room note bytes area s.some tabled head_below tail_below short apart ∙ ap (λ i. (i + 1) % 2 ^ 16) q.available_index
              ∙ let m : ((taken_count + length v.available) % 2 ^ 16 + 1) % 2 ^ 16 ≡ (taken_count + length (v.available ++ note ∷ [])) % 2 ^ 16 = omega (arith, more) in m;
          entries = Entries_push n (placed n room note bytes area) taken_count v.available note
              (Entries_keep n area (placed n room note bytes area) taken_count v.available
              (λ k lt. entries_kept n room note bytes area s.some tabled head_below tail_below short apart (taken_count + k) (λ e. places_apart n taken_count k (length v.available) lt (omega (arith, left, s.table)) (e ∙ index)))
              q.entries)
              (entry_place n (taken_count + length v.available) (available_index n area) (placed n room note bytes area) (sym index)
              ∙ entry_placed n room note bytes area s.some tabled head_below tail_below short apart s.most);
          used_index = field_same (used_index_at n) 2 (placed n room note bytes area) area (used_kept n room note bytes area s.some tabled head_below tail_below short apart (used_index_at n) 2 (omega arith) (omega arith)) ∙ q.used_index;
          elements = Elements_keep n area (placed n room note bytes area) seen v.unread
              (λ k lt. let end = element_end n (seen + k) some in same8 n (seen + k) area (placed n room note bytes area) (used_kept n room note bytes area s.some tabled head_below tail_below short apart (used_element_at n (seen + k)) 8 (omega arith) (omega (arith, end))))
              q.elements;
          available = Each-push (IsLaid n room (placed n room note bytes area)) v.available note (laid_others v.available s.proper.available (λ d. omega arith) q.available) (laid_placed n room note bytes area s.some tabled head_below tail_below short apart);
          popped = laid_others v.popped s.proper.popped (λ d. omega arith) q.popped;
        }

    pub add_sound : IsSound n reading writing room (placed n room note bytes area) taken_count seen lent (noted_add note v)
    add_sound = record {
      some = s.some;
      most = s.most;
      divides = s.divides;
      table = s.table;
      bytes = length_after_add ∙ s.bytes;
      small = s.small;
      readable = s.readable;
      writable = s.writable;
      whole = whole_add v note s.whole le h t;
      proper = proper_add reading writing v s.proper note p;
      tied = λ e. tied_add (s.tied e);
    }

    lists_add : lists_of n room (placed n room note bytes area) (noted_add note v) ≡ lists_after_add note.head bytes note.write (lists_of n room area v)
    lists_add =
        let q = queued_keep n reading writing room note.head area (placed n room note bytes area) s.readable s.writable (buffers_kept n room note bytes area s.some tabled head_below tail_below short apart) in
        let u = used_keep n reading writing room note.head area (placed n room note bytes area) s.readable s.writable (buffers_kept n room note bytes area s.some tabled head_below tail_below short apart) in
        let a = map-append (queued_of n room (placed n room note bytes area)) v.available (note ∷ []) ∙ ap (λ qs. qs ++ queued_of n room (placed n room note bytes area) note ∷ []) (q v.available s.proper.available (omega (arith, head_fresh))) in
        let o = q v.popped s.proper.popped (omega (arith, head_fresh)) in
        let us : map (used_of n room (placed n room note bytes area)) (v.uncollected ++ v.unread) ≡ map (used_of n room area) (v.uncollected ++ v.unread) =
        map-append (used_of n room (placed n room note bytes area)) v.uncollected v.unread ∙ ap (λ us. us ++ map (used_of n room (placed n room note bytes area)) v.unread) (u v.uncollected s.proper.uncollected (omega (arith, head_fresh)))
        ∙ ap (λ us. map (used_of n room area) v.uncollected ++ us) (u v.unread s.proper.unread (omega (arith, head_fresh))) ∙ sym (map-append (used_of n room area) v.uncollected v.unread) in
        let mine : bytes_at (buffer_at n room note.head) note.read (placed n room note bytes area) ≡ bytes =
        subst (λ k. bytes_at (buffer_at n room note.head) k (placed n room note bytes area) ≡ bytes) fits (bytes_placed n room note bytes area s.some tabled head_below tail_below short apart) in
        rw (a, o, us, mine) refl

    pub add_seen : lists_unless lent (lists_of n room (placed n room note bytes area) (noted_add note v)) ≡ option_map (lists_after_add note.head bytes note.write) (lists_unless lent (lists_of n room area v))
    add_seen = go lent
      where
        go : (b : Bool) → lists_unless b (lists_of n room (placed n room note bytes area) (noted_add note v)) ≡ option_map (lists_after_add note.head bytes note.write) (lists_unless b (lists_of n room area v))
        go true = refl
        go false = ap Some lists_add

-- the chain that the notes take
module _ (n reading writing room : ℕ) (area : List ℕ) (taken_count seen : ℕ) (lent : Bool) (v : NoteLists) (s : IsSound n reading writing room area taken_count seen lent v)
    (r w : ℕ) (rd : r ≤ reading) (wr : w ≤ writing) (some : 1 ≤ r + w) (le : needs_of r w ≤ length v.free) where
  note_is : IsNote reading writing (note_for r w v)
  note_is = record {
    readable = rd;
    writable = wr;
    some = some;
    returned = omega arith;
    single = λ e. ap (λ b. get_or v.free (length v.free - (if b then 2 else 1)) 0) e;
  }

  pub taken_below : (note_for r w v).head < n
  taken_below = head_below n reading writing room area taken_count seen lent v s (note_for r w v) note_is le refl refl

  pub taken_placeable : (k : ℕ) → k ≡ r → IsPlaceable n room (note_for r w v) k (length area)
  taken_placeable k e = record {
    small = s.small;
    whole = s.bytes;
    head = taken_below;
    tail = tail_below n reading writing room area taken_count seen lent v s (note_for r w v) note_is le refl refl;
    fits = omega (arith, e, rd, s.readable);
  }

  pub taken_fresh : IfSome (lists_unless lent (lists_of n room area v)) (λ l. head_count (note_for r w v).head l ≡ 0)
  taken_fresh = fresh_known n room (note_for r w v).head area lent v (head_fresh n reading writing room area taken_count seen lent v s (note_for r w v) note_is le refl refl)

  module _ (bytes : List ℕ) (fits : length bytes ≡ r) where
    pub taken_length : length (placed n room (note_for r w v) bytes area) ≡ length area
    taken_length = length_after_add n reading writing room area taken_count seen lent v s (note_for r w v) note_is le refl refl bytes fits

    pub taken_sound : IsSound n reading writing room (placed n room (note_for r w v) bytes area) taken_count seen lent (noted_add (note_for r w v) v)
    taken_sound = add_sound n reading writing room area taken_count seen lent v s (note_for r w v) note_is le refl refl bytes fits

    pub taken_seen : lists_unless lent (lists_of n room (placed n room (note_for r w v) bytes area) (noted_add (note_for r w v) v)) ≡ option_map (lists_after_add (note_for r w v).head bytes w) (lists_unless lent (lists_of n room area v))
    taken_seen = add_seen n reading writing room area taken_count seen lent v s (note_for r w v) note_is le refl refl bytes fits
