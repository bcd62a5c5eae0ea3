-- A push to a sound ring.
use Rattle.std.proofs.Common.{◌≡◌, ◌≢◌, ℕ, ◌+◌, ◌*◌, ◌%◌, ◌^◌, ◌<◌, ◌≤◌, inl, inr, Bool, true, false, List, [], ◌∷◌, ◌++◌, length, take, map, min, find, Some, None, Option, refl, ap, sym, subst, ◌∙◌, arith}
use Rattle.std.specs.Prelude.{IfSome, IsTrue, nat_lt, count_by, ◌==◌}
use Rattle.std.specs.Option.{option_map}
use Rattle.std.proofs.lemmas.List.{map-append, append_assoc, length-append, take-append-drop, take_all, nil_from_length}
use Rattle.vi_bytes.specs.Fields.{field}
use Rattle.vi_vring.specs.declared.chain.Chain.{Chain as ChainData}
use Rattle.vi_vring.specs.declared.chain.Popped.TheVariants.{Chain}
use Rattle.vi_vring.specs.declared.note.Note.{Note}
use Rattle.vi_vring.specs.Layout.{descriptor_at, available_index_at, available_entry_at, used_index_at, used_element_at, buffer_at}
use Rattle.vi_vring.specs.Writes.{written, bytes_at}
use Rattle.vi_vring.specs.Shown.{shown}
use Rattle.vi_vring.specs.Parts.{scattered, readable_bytes}
use Rattle.vi_vring.specs.Device.{used_index, used_after, popped_as}
use Rattle.vi_vring.specs.Values.{Queued}
use Rattle.vi_vring.specs.Moves.{pieces_or, pieces_shown, area_after_push, lists_after_push, is_popped, popped_bytes}
use Rattle.vi_vring.specs.Notes.{NoteLists, has_head, without, tally, tally_all, one, uses, noted_push, returned}
use Rattle.vi_vring.specs.Tied.{Each, IsNote, IsLaid, IsSound, Tied, queued_of, used_of, lists_of, lists_unless}
use Rattle.std.proofs.Math.Nat.{mod-lt}
use Rattle.vi_vring.proofs.NoteLemmas.{tally-append, tally-without, head_found, unread_room}
use Rattle.vi_vring.proofs.Wholes.{whole_push}
use Rattle.vi_vring.proofs.Members.{Each-find, Each-without, proper_push, one_same, uses_tail}
use Rattle.vi_vring.proofs.Rings.{wrapped_place}
use Rattle.vi_vring.proofs.Frames.{apart_by, bytes_apart, bytes_written, length-written, field_same}
use Rattle.vi_vring.proofs.Laid.{pieces_of, pieces_by, readable_piece, writable_piece, by_true, buffer_end}
use Rattle.vi_vring.proofs.UsedRing.{element_end, same8, length-used_after, used_keep_bytes, used_index_rises, element_id, element_len}
use Rattle.vi_vring.proofs.Keeps.{queued_keep, used_keep, laid_keep, Entries_keep, Elements_keep, Elements_push, Same8, IsElement, places_apart, without_queued, any_found, find_queued}
use Rattle.vi_vring.proofs.Counts.{head_tally, heads_le_uses}
use Rattle.vi_vring.proofs.Sounds.{table, note_head, note_tail, note_shown, note_popped_as, note_readable, noted_chain}

pub written_none : (at : ℕ) (area : List ℕ) → written at [] area ≡ area
written_none at area = take-append-drop at area

-- what is written to a laid chain stands at the start of its writable buffer
pub scattered_laid : (n room : ℕ) (x : Note) (bytes area : List ℕ) → length bytes ≤ x.write → scattered (pieces_of n room x) bytes area ≡ written (buffer_at n room x.tail) bytes area
scattered_laid n room x bytes area le = go (nat_lt 0 x.read) (nat_lt 0 x.write) refl
  where
    none : x.write ≡ 0 → area ≡ written (buffer_at n room x.tail) bytes area
    none z = let e : bytes ≡ [] = nil_from_length bytes (omega (arith, z, le)) in sym (ap (λ bs. written (buffer_at n room x.tail) bs area) e ∙ written_none (buffer_at n room x.tail) area)

    all : written (buffer_at n room x.tail) (take x.write bytes) area ≡ written (buffer_at n room x.tail) bytes area
    all = ap (λ bs. written (buffer_at n room x.tail) bs area) (take_all x.write bytes le)

    go : (b c : Bool) → nat_lt 0 x.write ≡ c → scattered (pieces_by b c (readable_piece n room x) (writable_piece n room x)) bytes area ≡ written (buffer_at n room x.tail) bytes area
    go true true e = ap (written (buffer_at n room x.tail) (take x.write bytes)) (written_none (buffer_at n room x.head) area) ∙ all
    go true false e = written_none (buffer_at n room x.head) area ∙ none (by_true false x.write e refl)
    go false true e = all
    go false false e = none (by_true false x.write e refl)

module _ (n reading writing room : ℕ) (area : List ℕ) (taken seen : ℕ) (v : NoteLists) (s : IsSound n reading writing room area taken seen false v)
    (x : Note) (f : find (has_head x.head) v.popped ≡ Some x) (bytes : List ℕ) (fits : length bytes ≤ x.write) where
  t : Tied n room area taken seen v
  t = s.tied refl

  px : IsNote reading writing x
  px = Each-find (IsNote reading writing) x.head v.popped x f s.proper.popped

  lx : IsLaid n room area x
  lx = Each-find (IsLaid n room area) x.head v.popped x f t.popped

  pub counted : (d : ℕ) → uses d x ≤ tally_all (uses d) v
  counted d = omega (arith, tally-without (uses d) x.head v.popped x f)

  pub popped_shown : popped_as x.head (shown n area x.head) ≡ Chain (noted_chain x)
  popped_shown = note_popped_as n reading writing room area taken seen false v s x px counted lx

  tail_below : x.tail < n
  tail_below = note_tail n reading writing room area taken seen false v s x px counted

  head_below : x.head < n
  head_below = note_head n reading writing room area taken seen false v s x px counted

  some : 0 < n
  some = omega (arith, s.some)

  -- the area with the bytes, and with the chain returned
  pub filled : List ℕ
  filled = written (buffer_at n room x.tail) bytes area

  pub after : List ℕ
  after = used_after n x.head (length bytes) filled

  pub area_push_is : area_after_push n x.head bytes area ≡ after
  unfolding area_after_push after filled
  area_push_is =
      let pieces = ap (λ r. scattered (pieces_or r) bytes area) (note_shown n reading writing room area taken seen false v s x px counted lx) in
      ap (used_after n x.head (length bytes)) (pieces ∙ scattered_laid n room x bytes area fits)

  short : length bytes ≤ room
  short = omega (arith, fits, px.writable, s.writable)

  inside : buffer_at n room x.tail + length bytes ≤ length area
  inside = let e = buffer_end n room (length area) x.tail (table n reading writing room area taken seen false v s) tail_below in omega (arith, e, short)

  length_filled : length filled ≡ length area
  unfolding filled
  length_filled = length-written (buffer_at n room x.tail) bytes area inside

  roomy : 26 * n + 14 ≤ length filled
  roomy = omega (arith, length_filled, s.bytes)

  pub length_after : length after ≡ length area
  unfolding after
  length_after = length-used_after n x.head (length bytes) filled some roomy ∙ length_filled

  -- what lies before the used ring stays
  low : (at k : ℕ) → at + k ≤ 18 * n + 8 → bytes_at at k after ≡ bytes_at at k area
  unfolding after filled
  low at k le = used_keep_bytes n x.head (length bytes) filled some roomy at k (inl (omega (arith, le))) (inl (omega (arith, le))) ∙ bytes_apart at k (buffer_at n room x.tail) bytes area inside (inl (omega (arith, le)))

  -- the used index is read behind the bytes, and is that of before
  index_stays : used_index n filled ≡ used_index n area
  unfolding filled
  index_stays = field_same (used_index_at n) 2 (written (buffer_at n room x.tail) bytes area) area (bytes_apart (used_index_at n) 2 (buffer_at n room x.tail) bytes area inside (inl (omega arith)))

  -- the other buffers stay
  others : (e k : ℕ) → e ≢ x.tail → k ≤ room → bytes_at (buffer_at n room e) k after ≡ bytes_at (buffer_at n room e) k area
  unfolding after filled
  others e k ne le =
      let end = element_end n (used_index n filled) some in
      used_keep_bytes n x.head (length bytes) filled some roomy (buffer_at n room e) k (inr (omega (arith, end))) (inr (omega arith))
      ∙ bytes_apart (buffer_at n room e) k (buffer_at n room x.tail) bytes area inside (apart_by room (26 * n + 14) e x.tail k (length bytes) ne le short)

  -- and this one has the bytes
  mine : bytes_at (buffer_at n room x.tail) (length bytes) after ≡ bytes
  unfolding after filled
  mine =
      let end = element_end n (used_index n filled) some in
      used_keep_bytes n x.head (length bytes) filled some roomy (buffer_at n room x.tail) (length bytes) (inr (omega (arith, end))) (inr (omega arith)) ∙ bytes_written (buffer_at n room x.tail) bytes area inside

  -- the place of the new element
  place : used_index n filled % n ≡ (seen + length v.unread) % n
  place = ap (λ i. i % n) (index_stays ∙ t.used_index) ∙ wrapped_place n (seen + length v.unread) s.divides

  element_place : used_element_at n (used_index n filled) ≡ used_element_at n (seen + length v.unread)
  element_place = ap (λ k. 18 * n + 12 + 8 * k) place

  elements_stay : (k : ℕ) → k < length v.unread → Same8 n area after (seen + k)
  unfolding after filled
  elements_stay k lt =
      let room_left = unread_room v s.whole x.head x f in
      let ne : (seen + k) % n ≢ used_index n filled % n = λ e. places_apart n seen k (length v.unread) lt (omega (arith, room_left, s.table)) (e ∙ place) in
      let end = element_end n (seen + k) some in
      same8 n (seen + k) area after
      (used_keep_bytes n x.head (length bytes) filled some roomy (used_element_at n (seen + k)) 8 (apart_by 8 (18 * n + 12) ((seen + k) % n) (used_index n filled % n) 8 8 ne (omega arith) (omega arith)) (inr (omega arith))
      ∙ bytes_apart (used_element_at n (seen + k)) 8 (buffer_at n room x.tail) bytes area inside (inl (omega (arith, end))))

  returned_note : Note
  returned_note = record x { len = length bytes }

  element_new : IsElement n after (seen + length v.unread) returned_note
  unfolding after filled returned_note
  element_new =
      let id = element_id n x.head (length bytes) filled some roomy (omega (arith, head_below, s.most)) in
      let len = element_len n x.head (length bytes) filled some roomy (omega (arith, short, s.small)) in
      record {
        id = ap (λ at. field at 4 after) (sym element_place) ∙ id;
        len = ap (λ at. field (at + 4) 4 after) (sym element_place) ∙ len;
      }

  noted : noted_push x.head (length bytes) v ≡ record v { popped = without x.head v.popped; unread = v.unread ++ returned_note ∷ [] }
  unfolding returned_note
  noted =
      let least : min (length bytes) x.write ≡ length bytes = omega (arith, fits) in
      ap (λ o. returned x.head (length bytes) o v) f ∙ ap (λ k. record v { popped = without x.head v.popped; unread = v.unread ++ (record x { len = k }) ∷ [] }) least

  -- the lists' chains lie in the table
  below : (ys : List Note) → Each (IsNote reading writing) ys → ((d : ℕ) → tally (uses d) ys ≤ tally_all (uses d) v) → Each (λ y. (y.head < n) × (y.tail < n)) ys
  below [] p le = tt
  below (y ∷ ys) p le =
      let one : (d : ℕ) → uses d y ≤ tally_all (uses d) v = λ d. omega (arith, le d) in (
        (note_head n reading writing room area taken seen false v s y p.0 one, note_tail n reading writing room area taken seen false v s y p.0 one),
        below ys p.1 (λ d. omega (arith, le d)),
      )

  laid_after : (ys : List Note) → Each (IsNote reading writing) ys → ((d : ℕ) → tally (uses d) ys ≤ tally_all (uses d) v) → Each (IsLaid n room area) ys → Each (IsLaid n room after) ys
  laid_after ys p le l = laid_keep n room area after (λ e. e < n) (λ e lt. low (descriptor_at e) 16 (omega (arith, lt))) ys (below ys p le) l

  rises : used_index n after ≡ (seen + length (v.unread ++ returned_note ∷ [])) % 2 ^ 16
  unfolding after
  rises =
      let more = length-append v.unread (returned_note ∷ []) in
      used_index_rises n x.head (length bytes) filled some roomy ∙ ap (λ i. (i + 1) % 2 ^ 16) (index_stays ∙ t.used_index)
      ∙ let m : ((seen + length v.unread) % 2 ^ 16 + 1) % 2 ^ 16 ≡ (seen + length (v.unread ++ returned_note ∷ [])) % 2 ^ 16 = omega (arith, more) in m

  pub push_tied : Tied n room after taken seen (noted_push x.head (length bytes) v)
  unfolding returned_note
  push_tied = subst (λ w. Tied n room after taken seen w) (sym noted) (record {
    available_index = field_same (available_index_at n) 2 after area (low (available_index_at n) 2 (omega arith)) ∙ t.available_index;
    entries = Entries_keep n area after taken v.available (λ k lt. let m = mod-lt (taken + k) some in field_same (available_entry_at n (taken + k)) 2 after area (low (available_entry_at n (taken + k)) 2 (omega (arith, m)))) t.entries;
    used_index = rises;
    elements = Elements_push n after seen v.unread returned_note (Elements_keep n area after seen v.unread elements_stay t.elements) element_new;
    available = laid_after v.available s.proper.available (λ d. omega arith) t.available;
    popped = laid_after (without x.head v.popped) (Each-without (IsNote reading writing) x.head v.popped s.proper.popped) (λ d. omega (arith, tally-without (uses d) x.head v.popped x f)) (Each-without (IsLaid n room area) x.head v.popped t.popped);
  })

  -- no other chain uses the descriptor that the bytes were written to
  alone : tally (uses x.tail) (without x.head v.popped) + tally (uses x.tail) v.available + tally (uses x.tail) v.unread + tally (uses x.tail) v.uncollected ≡ 0
  alone = omega (arith, s.whole.once x.tail, tally-without (uses x.tail) x.head v.popped x f, uses_tail reading writing x px)

  pub push_lists : lists_of n room after (noted_push x.head (length bytes) v) ≡ lists_after_push (noted_chain x) bytes (lists_of n room area v)
  unfolding returned_note
  push_lists =
      let q = queued_keep n reading writing room x.tail area after s.readable s.writable others in
      let u = used_keep n reading writing room x.tail area after s.readable s.writable others in
      let sums = tally-append (uses x.tail) v.uncollected v.unread in
      let a = q v.available s.proper.available (omega (arith, alone)) in
      let p = q (without x.head v.popped) (Each-without (IsNote reading writing) x.head v.popped s.proper.popped) (omega (arith, alone)) ∙ without_queued n room area x.head v.popped in
      let uc = u v.uncollected s.proper.uncollected (omega (arith, alone)) in
      let ur = u v.unread s.proper.unread (omega (arith, alone)) in
      let parts : map (used_of n room after) (v.uncollected ++ (v.unread ++ returned_note ∷ [])) ≡ map (used_of n room area) (v.uncollected ++ v.unread) ++ used_of n room after returned_note ∷ [] =
      ap (map (used_of n room after)) (sym (append_assoc v.uncollected v.unread (returned_note ∷ []))) ∙ map-append (used_of n room after) (v.uncollected ++ v.unread) (returned_note ∷ [])
      ∙ ap (λ us. us ++ used_of n room after returned_note ∷ []) (map-append (used_of n room after) v.uncollected v.unread ∙ ap (λ us. us ++ map (used_of n room after) v.unread) uc ∙ ap (λ us. map (used_of n room area) v.uncollected ++ us) ur ∙ sym (map-append (used_of n room area) v.uncollected v.unread)) in
      ap (lists_of n room after) noted ∙ rw (a, p, parts, mine) refl

size_push : (head len : ℕ) (v : NoteLists) → (noted_push head len v).size ≡ v.size
size_push head len v = go (find (has_head head) v.popped)
  where
    go : (o : Option Note) → (returned head len o v).size ≡ v.size
    go None = refl
    go (Some x) = refl

-- a note of the popped chain
record IsNoteOf (v : NoteLists) (chain : ChainData) (x : Note) : Type 0 where
  found : find (has_head x.head) v.popped ≡ Some x
  same : noted_chain x ≡ chain

same_chain : (c d : ChainData) → Chain c ≡ Chain d → c ≡ d
same_chain c d e = cc

module _ (n reading writing room : ℕ) (area : List ℕ) (taken seen : ℕ) (v : NoteLists) (s : IsSound n reading writing room area taken seen false v)
    (chain : ChainData) (shows : popped_as chain.head (shown n area chain.head) ≡ Chain chain) (out : is_popped chain (lists_of n room area v) ≡ true) where
  its_note : (x : Note) × IsNoteOf v chain x
  its_note =
      let h = any_found n room area chain.head v.popped out in
      let x = h.0 in
      let e : x.head ≡ chain.head = head_found chain.head v.popped x h.1 in
      let f : find (has_head x.head) v.popped ≡ Some x = subst (λ k. find (has_head k) v.popped ≡ Some x) (sym e) h.1 in
      let g : popped_as x.head (shown n area x.head) ≡ Chain chain = subst (λ k. popped_as k (shown n area k) ≡ Chain chain) (sym e) shows in
      (x, record { found = f; same = same_chain (noted_chain x) chain (sym (popped_shown n reading writing room area taken seen v s x f [] (omega arith)) ∙ g) })

  once_popped : (chain.head < n) × (count_by (λ (q : Queued). q.head == chain.head) (lists_of n room area v).popped ≡ 1)
  once_popped =
      let x = its_note.0 in
      let k = its_note.1 in
      let p = Each-find (IsNote reading writing) x.head v.popped x k.found s.proper.popped in
      let le : (d : ℕ) → uses d x ≤ tally_all (uses d) v = λ d. omega (arith, tally-without (uses d) x.head v.popped x k.found) in
      let here : (x.head < n) × (count_by (λ (q : Queued). q.head == x.head) (map (queued_of n room area) v.popped) ≡ 1) = (
        note_head n reading writing room area taken seen false v s x p le,
        omega (arith, head_tally n room x.head area v.popped, heads_le_uses x.head v.popped, s.whole.once x.head, tally-without (λ y. one x.head y.head) x.head v.popped x k.found, one_same x.head),
      ) in
      subst (λ (c : ChainData). (c.head < n) × (count_by (λ (q : Queued). q.head == c.head) (map (queued_of n room area) v.popped) ≡ 1)) k.same here

  module _ (bytes : List ℕ) (fits : length bytes ≤ chain.write) where
    tied_push : Tied n room (area_after_push n chain.head bytes area) taken seen (noted_push chain.head (length bytes) v)
    tied_push =
        let x = its_note.0 in
        let k = its_note.1 in
        let le : length bytes ≤ x.write = subst (λ (c : ChainData). length bytes ≤ c.write) (sym k.same) fits in
        let here : Tied n room (area_after_push n x.head bytes area) taken seen (noted_push x.head (length bytes) v) =
        subst (λ a. Tied n room a taken seen (noted_push x.head (length bytes) v)) (sym (area_push_is n reading writing room area taken seen v s x k.found bytes le)) (push_tied n reading writing room area taken seen v s x k.found bytes le) in
        subst (λ (c : ChainData). Tied n room (area_after_push n c.head bytes area) taken seen (noted_push c.head (length bytes) v)) k.same here

    lists_push : lists_of n room (area_after_push n chain.head bytes area) (noted_push chain.head (length bytes) v) ≡ lists_after_push chain bytes (lists_of n room area v)
    lists_push =
        let x = its_note.0 in
        let k = its_note.1 in
        let le : length bytes ≤ x.write = subst (λ (c : ChainData). length bytes ≤ c.write) (sym k.same) fits in
        let here : lists_of n room (area_after_push n x.head bytes area) (noted_push x.head (length bytes) v) ≡ lists_after_push (noted_chain x) bytes (lists_of n room area v) =
        ap (λ a. lists_of n room a (noted_push x.head (length bytes) v)) (area_push_is n reading writing room area taken seen v s x k.found bytes le) ∙ push_lists n reading writing room area taken seen v s x k.found bytes le in
        subst (λ (c : ChainData). lists_of n room (area_after_push n c.head bytes area) (noted_push c.head (length bytes) v) ≡ lists_after_push c bytes (lists_of n room area v)) k.same here

  bytes_of_popped : popped_bytes chain.head (lists_of n room area v) ≡ Some (readable_bytes area (pieces_shown n area chain.head))
  bytes_of_popped =
      let x = its_note.0 in
      let k = its_note.1 in
      let here : popped_bytes x.head (lists_of n room area v) ≡ Some (readable_bytes area (pieces_shown n area x.head)) =
      ap (option_map (λ (q : Queued). q.readable)) (find_queued n room area x.head v.popped ∙ ap (option_map (queued_of n room area)) k.found)
      ∙ ap Some (sym (note_readable n reading writing room area taken seen false v s x (Each-find (IsNote reading writing) x.head v.popped x k.found s.proper.popped) (λ d. omega (arith, tally-without (uses d) x.head v.popped x k.found))
      (Each-find (IsLaid n room area) x.head v.popped x k.found (s.tied refl).popped))) in
      subst (λ (c : ChainData). popped_bytes c.head (lists_of n room area v) ≡ Some (readable_bytes area (pieces_shown n area c.head))) k.same here

-- whether the lists are known or not
module _ (n reading writing room : ℕ) (area : List ℕ) (taken seen : ℕ) (lent : Bool) (v : NoteLists) (s : IsSound n reading writing room area taken seen lent v)
    (chain : ChainData) (shows : popped_as chain.head (shown n area chain.head) ≡ Chain chain) (out : IfSome (lists_unless lent (lists_of n room area v)) (λ l. IsTrue (is_popped chain l))) where
  pub readable_known : IfSome (lists_unless lent (lists_of n room area v)) (λ l. popped_bytes chain.head l ≡ Some (readable_bytes area (pieces_shown n area chain.head)))
  readable_known = go lent s out
    where
      go : (b : Bool) → IsSound n reading writing room area taken seen b v → IfSome (lists_unless b (lists_of n room area v)) (λ l. IsTrue (is_popped chain l))
          → IfSome (lists_unless b (lists_of n room area v)) (λ l. popped_bytes chain.head l ≡ Some (readable_bytes area (pieces_shown n area chain.head)))
      go true q o = tt
      go false q o = bytes_of_popped n reading writing room area taken seen v q chain shows o

  pub once_known : IfSome (lists_unless lent (lists_of n room area v)) (λ l. (chain.head < n) × (count_by (λ q. q.head == chain.head) l.popped ≡ 1))
  once_known = go lent s out
    where
      go : (b : Bool) → IsSound n reading writing room area taken seen b v → IfSome (lists_unless b (lists_of n room area v)) (λ l. IsTrue (is_popped chain l))
          → IfSome (lists_unless b (lists_of n room area v)) (λ l. (chain.head < n) × (count_by (λ q. q.head == chain.head) l.popped ≡ 1))
      go true q o = tt
      go false q o = once_popped n reading writing room area taken seen v q chain shows o

  module _ (bytes : List ℕ) (fits : length bytes ≤ chain.write) where
    pub push_sound : length (area_after_push n chain.head bytes area) ≡ length area
        → IsSound n reading writing room (area_after_push n chain.head bytes area) taken seen lent (noted_push chain.head (length bytes) v)
    push_sound len = record {
      some = s.some;
      most = s.most;
      divides = s.divides;
      table = size_push chain.head (length bytes) v ∙ s.table;
      bytes = len ∙ s.bytes;
      small = s.small;
      readable = s.readable;
      writable = s.writable;
      whole = whole_push chain.head (length bytes) v s.whole;
      proper = proper_push reading writing v s.proper chain.head (length bytes);
      tied = λ e. tied_push n reading writing room area taken seen v (subst (λ b. IsSound n reading writing room area taken seen b v) e s) chain shows (subst (λ b. IfSome (lists_unless b (lists_of n room area v)) (λ l. IsTrue (is_popped chain l))) e out) bytes fits;
    }

    pub push_seen : lists_unless lent (lists_of n room (area_after_push n chain.head bytes area) (noted_push chain.head (length bytes) v)) ≡ option_map (lists_after_push chain bytes) (lists_unless lent (lists_of n room area v))
    push_seen = go lent s out
      where
        go : (b : Bool) → IsSound n reading writing room area taken seen b v → IfSome (lists_unless b (lists_of n room area v)) (λ l. IsTrue (is_popped chain l))
            → lists_unless b (lists_of n room (area_after_push n chain.head bytes area) (noted_push chain.head (length bytes) v)) ≡ option_map (lists_after_push chain bytes) (lists_unless b (lists_of n room area v))
        go true q o = refl
        go false q o = ap Some (lists_push n reading writing room area taken seen v q chain shows o bytes fits)
