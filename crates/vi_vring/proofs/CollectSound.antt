-- A collect of a sound ring.
use Rattle.std.proofs.Common.{◌≡◌, ◌≢◌, ◌⊎◌, inl, inr, ℕ, zero, suc, ◌+◌, ◌%◌, ◌^◌, ◌<◌, ◌≤◌, Bool, true, false, List, [], ◌∷◌, ◌++◌, length, map, min, eqb, find, Some, None, Option, refl, ap, sym, subst, ◌∙◌, arith}
use Rattle.std.specs.Prelude.{IfSome, IfNone, if◌then◌else◌}
use Rattle.std.specs.Option.{option_map}
use Rattle.std.proofs.lemmas.Bool.{eq-eqb}
use Rattle.std.proofs.lemmas.List.{append_assoc, append-nil}
use Rattle.vi_bytes.specs.Fields.{field}
use Rattle.vi_vring.specs.declared.note.Note.{Note}
use Rattle.vi_vring.specs.Layout.{used_element_at, buffer_at}
use Rattle.vi_vring.specs.Writes.{written, bytes_at}
use Rattle.vi_vring.specs.Device.{used_index}
use Rattle.vi_vring.specs.Values.{Used, Lists, RingValue}
use Rattle.vi_vring.specs.Moves.{lists_after_collect, used_with, collected_into, without_used}
use Rattle.vi_vring.specs.Notes.{NoteLists, has_head, without, uses, Whole, noted_read, read_back, noted_collect, freed}
use Rattle.vi_vring.specs.Reads.{read_from, index_gap, copied_into}
use Rattle.vi_vring.specs.Tied.{Each, IsNote, IsSound, Tied, Elements, Proper, used_of, lists_of, lists_unless}
use Rattle.vi_vring.proofs.NoteLemmas.{tally-without, without_none, length-le-needs}
use Rattle.vi_vring.proofs.Wholes.{whole_read, whole_collect}
use Rattle.vi_vring.proofs.Members.{Each-find, proper_read, proper_collect}
use Rattle.vi_vring.proofs.Rings.{wrapped_place, Elements_place}
use Rattle.vi_vring.proofs.Laid.{buffer_end}
use Rattle.vi_vring.proofs.Keeps.{find_used, without_used_is}
use Rattle.vi_vring.proofs.Sounds.{table, note_tail, length-bytes_at}

-- one element more is read
gap_step : (i e : ℕ) → i < 2 ^ 16 → e < 2 ^ 16 → i ≢ e → index_gap i e ≡ suc (index_gap ((i + 1) % 2 ^ 16) e)
gap_step i e p q ne = omega arith

pub gap_none : (i e : ℕ) → i ≡ e → index_gap i e ≡ 0
gap_none i e s = omega arith

pub read_step : (n : ℕ) (area : List ℕ) (i e : ℕ) (v : NoteLists) → i < 2 ^ 16 → e < 2 ^ 16 → i ≢ e
    → read_from n area (index_gap i e) i v
    ≡ read_from n area (index_gap ((i + 1) % 2 ^ 16) e) ((i + 1) % 2 ^ 16) (noted_read (field (used_element_at n i) 4 area) (field (used_element_at n i + 4) 4 area) v)
read_step n area i e v p q ne = rw (gap_step i e p q ne) refl

-- what stays when elements are read
size_read : (id len : ℕ) (v : NoteLists) → (noted_read id len v).size ≡ v.size
size_read id len v = go (find (has_head id) v.unread)
  where
    go : (o : Option Note) → (read_back id len o v).size ≡ v.size
    go None = refl
    go (Some x) = refl

whole_from : (n : ℕ) (area : List ℕ) (count i : ℕ) (v : NoteLists) → Whole v → Whole (read_from n area count i v)
whole_from n area zero i v w = w
whole_from n area (suc count) i v w = whole_from n area count ((i + 1) % 2 ^ 16) _ (whole_read (field (used_element_at n i) 4 area) (field (used_element_at n i + 4) 4 area) v w)

proper_from : (r w n : ℕ) (area : List ℕ) (count i : ℕ) (v : NoteLists) → Proper r w v → Proper r w (read_from n area count i v)
proper_from r w n area zero i v p = p
proper_from r w n area (suc count) i v p = proper_from r w n area count ((i + 1) % 2 ^ 16) _ (proper_read r w v p (field (used_element_at n i) 4 area) (field (used_element_at n i + 4) 4 area))

size_from : (n : ℕ) (area : List ℕ) (count i : ℕ) (v : NoteLists) → (read_from n area count i v).size ≡ v.size
size_from n area zero i v = refl
size_from n area (suc count) i v =
    size_from n area count ((i + 1) % 2 ^ 16) (noted_read (field (used_element_at n i) 4 area) (field (used_element_at n i + 4) 4 area) v) ∙ size_read (field (used_element_at n i) 4 area) (field (used_element_at n i + 4) 4 area) v

-- all elements that the used ring shows are read
abbrev all_read : List Note → NoteLists → NoteLists
all_read xs v = record v { unread = []; uncollected = v.uncollected ++ xs }

read_first : (x : Note) (xs : List Note) (v : NoteLists) → v.unread ≡ x ∷ xs → x.len ≤ x.write → noted_read x.head x.len v ≡ record v { unread = xs; uncollected = v.uncollected ++ x ∷ [] }
read_first x xs v e le =
    let found : find (has_head x.head) v.unread ≡ Some x = ap (find (has_head x.head)) e ∙ ap (λ b. if b then Some x else find (has_head x.head) xs) (eq-eqb x.head x.head refl) in
    let rest : without x.head v.unread ≡ xs = ap (without x.head) e ∙ ap (λ b. if b then xs else x ∷ without x.head xs) (eq-eqb x.head x.head refl) in
    let least : min x.len x.write ≡ x.len = omega (arith, le) in
    ap (λ o. read_back x.head x.len o v) found
    ∙ ap (λ k. record v { unread = without x.head v.unread; uncollected = v.uncollected ++ (record x { len = k }) ∷ [] }) least
    ∙ ap (λ ys. record v { unread = ys; uncollected = v.uncollected ++ x ∷ [] }) rest

read_all : (r w n : ℕ) (area : List ℕ) (i : ℕ) (xs : List Note) (v : NoteLists) → 2 ^ 16 % n ≡ 0 → v.unread ≡ xs → Each (IsNote r w) xs → Elements n area i xs → read_from n area (length xs) i v ≡ all_read xs v
read_all r w n area i [] v z e p l = ap (λ ys. record v { unread = ys }) e ∙ ap (λ ys. record v { unread = []; uncollected = ys }) (sym (append-nil v.uncollected))
read_all r w n area i (x ∷ xs) v z e p l =
    let here = ap (λ h. noted_read h (field (used_element_at n i + 4) 4 area) v) l.0 ∙ ap (λ k. noted_read x.head k v) l.1 ∙ read_first x xs v e p.0.returned in
    let one_more : suc i ≡ i + 1 = omega arith in
    let next = Elements_place n area (suc i) ((i + 1) % 2 ^ 16) xs (ap (λ j. j % n) one_more ∙ sym (wrapped_place n (i + 1) z)) l.2 in
    ap (read_from n area (length xs) ((i + 1) % 2 ^ 16)) here
    ∙ read_all r w n area ((i + 1) % 2 ^ 16) xs (record v { unread = xs; uncollected = v.uncollected ++ x ∷ [] }) z refl p.1 next
    ∙ ap (λ ys. record v { unread = []; uncollected = ys }) (append_assoc v.uncollected (x ∷ []) xs)

-- without a used chain that has the head nothing is taken out
without_used_none : (head : ℕ) (us : List Used) → find (λ (u : Used). eqb u.head head) us ≡ None → without_used head us ≡ us
without_used_none head [] = λ e. refl
without_used_none head (u ∷ us) = go (eqb u.head head) (without_used_none head us)
  where
    go : (b : Bool) → (find (λ (u : Used). eqb u.head head) us ≡ None → without_used head us ≡ us) → (if b then Some u else find (λ (u : Used). eqb u.head head) us) ≡ None
        → (if b then us else u ∷ without_used head us) ≡ u ∷ us
    go true k e = absurd cc
    go false k e = ap (λ zs. u ∷ zs) (k e)

size_collect : (head : ℕ) (v : NoteLists) → (noted_collect head v).size ≡ v.size
size_collect head v = go (find (has_head head) v.uncollected)
  where
    go : (o : Option Note) → (freed head o v).size ≡ v.size
    go None = refl
    go (Some x) = refl

-- after the used ring was read
module _ (n reading writing room : ℕ) (area : List ℕ) (taken seen : ℕ) (lent : Bool) (v : NoteLists) (s : IsSound n reading writing room area taken seen lent v) (small : seen < 2 ^ 16) where
  abbrev pub read_notes : NoteLists
  read_notes = read_from n area (index_gap seen (used_index n area)) seen v

  module _ (known : lent ≡ false) where
    t : Tied n room area taken seen v
    t = s.tied known

    gap : index_gap seen (used_index n area) ≡ length v.unread
    gap = omega (arith, t.used_index, small, length-le-needs v.unread, s.whole.all, s.table, s.most)

    notes_read : read_notes ≡ all_read v.unread v
    notes_read = ap (λ k. read_from n area k seen v) gap ∙ read_all reading writing n area seen v.unread v s.divides refl s.proper.unread t.elements

    lists_read : lists_of n room area read_notes ≡ lists_of n room area v
    lists_read =
        ap (lists_of n room area) notes_read
        ∙ ap (λ us. record (lists_of n room area v) { used = map (used_of n room area) us }) (append-nil (v.uncollected ++ v.unread))

    tied_read : Tied n room area taken (used_index n area) read_notes
    tied_read =
        let below : used_index n area < 2 ^ 16 = omega (arith, t.used_index) in
        subst (λ w. Tied n room area taken (used_index n area) w) (sym notes_read) (record {
          available_index = t.available_index;
          entries = t.entries;
          used_index = let m : used_index n area ≡ (used_index n area + 0) % 2 ^ 16 = omega (arith, below) in m;
          elements = tt;
          available = t.available;
          popped = t.popped;
        })

    none_unread : read_notes.unread ≡ []
    none_unread = ap (λ (w : NoteLists). w.unread) notes_read

  pub read_whole : Whole read_notes
  read_whole = whole_from n area (index_gap seen (used_index n area)) seen v s.whole

  pub read_proper : Proper reading writing read_notes
  read_proper = proper_from reading writing n area (index_gap seen (used_index n area)) seen v s.proper

  read_size : read_notes.size ≡ n
  read_size = size_from n area (index_gap seen (used_index n area)) seen v ∙ s.table

  read_sound : IsSound n reading writing room area taken (used_index n area) lent read_notes
  read_sound = record {
    some = s.some;
    most = s.most;
    divides = s.divides;
    table = read_size;
    bytes = s.bytes;
    small = s.small;
    readable = s.readable;
    writable = s.writable;
    whole = read_whole;
    proper = read_proper;
    tied = tied_read;
  }

  -- the note of a collected chain
  pub collected_inside : (head : ℕ) (x : Note) → find (has_head head) read_notes.uncollected ≡ Some x → buffer_at n room x.tail + x.len ≤ length area
  collected_inside head x f =
      let p = Each-find (IsNote reading writing) head read_notes.uncollected x f read_proper.uncollected in
      let tail = note_tail n reading writing room area taken (used_index n area) lent read_notes read_sound x p (λ d. omega (arith, tally-without (uses d) head read_notes.uncollected x f)) in
      let end = buffer_end n room (length area) x.tail (table n reading writing room area taken (used_index n area) lent read_notes read_sound) tail in
      omega (arith, end, p.returned, p.writable, s.writable)

  module _ (head : ℕ) where
    tied_collect : lent ≡ false → Tied n room area taken (used_index n area) (noted_collect head read_notes)
    tied_collect known = go (find (has_head head) read_notes.uncollected)
      where
        u : Tied n room area taken (used_index n area) read_notes
        u = tied_read known

        go : (o : Option Note) → Tied n room area taken (used_index n area) (freed head o read_notes)
        go None = u
        go (Some x) = record { available_index = u.available_index; entries = u.entries; used_index = u.used_index; elements = u.elements; available = u.available; popped = u.popped }

    pub collect_sound : IsSound n reading writing room area taken (used_index n area) lent (noted_collect head read_notes)
    collect_sound = record {
      some = s.some;
      most = s.most;
      divides = s.divides;
      table = size_collect head read_notes ∙ read_size;
      bytes = s.bytes;
      small = s.small;
      readable = s.readable;
      writable = s.writable;
      whole = whole_collect head read_notes read_whole;
      proper = proper_collect reading writing read_notes read_proper head;
      tied = tied_collect;
    }

    used_found : lent ≡ false → used_with head (lists_of n room area v) ≡ option_map (used_of n room area) (find (has_head head) read_notes.uncollected)
    used_found known =
        ap (used_with head) (sym (lists_read known)) ∙ ap (λ us. find (λ (u : Used). eqb u.head head) (map (used_of n room area) (read_notes.uncollected ++ us))) (none_unread known)
        ∙ ap (λ us. find (λ (u : Used). eqb u.head head) (map (used_of n room area) us)) (append-nil read_notes.uncollected) ∙ find_used n room area head read_notes.uncollected

    lists_collect : lent ≡ false → lists_of n room area (noted_collect head read_notes) ≡ lists_after_collect head (lists_of n room area v)
    lists_collect known = go (find (has_head head) read_notes.uncollected) refl ∙ ap (lists_after_collect head) (lists_read known)
      where
        none : read_notes.unread ≡ []
        none = none_unread known

        used_before : map (used_of n room area) (read_notes.uncollected ++ read_notes.unread) ≡ map (used_of n room area) read_notes.uncollected
        used_before = ap (λ us. map (used_of n room area) (read_notes.uncollected ++ us)) none ∙ ap (map (used_of n room area)) (append-nil read_notes.uncollected)

        go : (o : Option Note) → find (has_head head) read_notes.uncollected ≡ o → lists_of n room area (freed head o read_notes) ≡ lists_after_collect head (lists_of n room area read_notes)
        go None e =
            let same = without_none head read_notes.uncollected e in
            let back = ap (map (used_of n room area)) (sym same) ∙ without_used_is n room area head read_notes.uncollected ∙ ap (without_used head) (sym used_before) in
            ap (λ us. record (lists_of n room area read_notes) { used = us }) (used_before ∙ back)
        go (Some x) e =
            let after : map (used_of n room area) (without head read_notes.uncollected ++ read_notes.unread) ≡ map (used_of n room area) (without head read_notes.uncollected) =
            ap (λ us. map (used_of n room area) (without head read_notes.uncollected ++ us)) none ∙ ap (map (used_of n room area)) (append-nil (without head read_notes.uncollected)) in
            ap (λ us. record (lists_of n room area read_notes) { used = us }) (after ∙ without_used_is n room area head read_notes.uncollected ∙ ap (without_used head) (sym used_before))

    pub collect_seen : lists_unless lent (lists_of n room area (noted_collect head read_notes)) ≡ option_map (lists_after_collect head) (lists_unless lent (lists_of n room area v))
    collect_seen = go lent refl
      where
        go : (b : Bool) → lent ≡ b → lists_unless b (lists_of n room area (noted_collect head read_notes)) ≡ option_map (lists_after_collect head) (lists_unless b (lists_of n room area v))
        go true e = refl
        go false e = ap Some (lists_collect e)

    -- the chain's buffer lies in the area
    pub inside_known : IfSome (find (has_head head) read_notes.uncollected) (λ x. buffer_at n room x.tail + x.len ≤ length area)
    inside_known = go (find (has_head head) read_notes.uncollected) refl
      where
        go : (o : Option Note) → find (has_head head) read_notes.uncollected ≡ o → IfSome o (λ x. buffer_at n room x.tail + x.len ≤ length area)
        go None e = tt
        go (Some x) e = collected_inside head x e

    -- where no chain is collected nothing changes
    pub none_same : (ring_with : Option Lists → RingValue) (size : ℕ)
        → IfNone (option_map (λ (x : Note). min x.len size) (find (has_head head) read_notes.uncollected)) (ring_with (lists_unless lent (lists_of n room area (noted_collect head read_notes))) ≡ ring_with (lists_unless lent (lists_of n room area v)))
    none_same ring_with size = each (find (has_head head) read_notes.uncollected) refl
      where
        go : (b : Bool) → lent ≡ b → find (has_head head) read_notes.uncollected ≡ None → option_map (lists_after_collect head) (lists_unless b (lists_of n room area v)) ≡ lists_unless b (lists_of n room area v)
        go true e f = refl
        go false e f = ap (λ us. Some (record (lists_of n room area v) { used = us })) (without_used_none head (lists_of n room area v).used (used_found e ∙ ap (option_map (used_of n room area)) f))

        each : (o : Option Note) → find (has_head head) read_notes.uncollected ≡ o
            → IfNone (option_map (λ (x : Note). min x.len size) o) (ring_with (lists_unless lent (lists_of n room area (noted_collect head read_notes))) ≡ ring_with (lists_unless lent (lists_of n room area v)))
        each None f = ap ring_with (collect_seen ∙ go lent refl f)
        each (Some x) f = tt

    -- room for any writable part is room for this one
    any_fits : (size : ℕ) → writing ≤ size → (o : Option Note) → find (has_head head) read_notes.uncollected ≡ o → IfSome (option_map (used_of n room area) o) (λ u. u.write ≤ size)
    any_fits size le None e = tt
    any_fits size le (Some x) e = let p = Each-find (IsNote reading writing) head read_notes.uncollected x e read_proper.uncollected in omega (arith, p.writable, le)

    pub holds_from : (size : ℕ) → (writing ≤ size) ⊎ IfSome (lists_unless lent (lists_of n room area v)) (λ l. IfSome (used_with head l) (λ u. u.write ≤ size))
        → IfSome (lists_unless lent (lists_of n room area v)) (λ l. IfSome (used_with head l) (λ u. u.write ≤ size))
    holds_from size (inr h) = h
    holds_from size (inl le) = go lent refl
      where
        go : (b : Bool) → lent ≡ b → IfSome (lists_unless b (lists_of n room area v)) (λ l. IfSome (used_with head l) (λ u. u.write ≤ size))
        go true e = tt
        go false e = subst (λ o. IfSome o (λ (u : Used). u.write ≤ size)) (sym (used_found e)) (any_fits size le (find (has_head head) read_notes.uncollected) refl)

    -- what is answered
    module _ (out : List ℕ) (holds : IfSome (lists_unless lent (lists_of n room area v)) (λ l. IfSome (used_with head l) (λ u. u.write ≤ length out))) where
      as_used : (o : Option Note) → find (has_head head) read_notes.uncollected ≡ o → IfSome (option_map (used_of n room area) o) (λ u. u.write ≤ length out)
          → (option_map (λ (x : Note). min x.len (length out)) o ≡ option_map (λ (u : Used). length u.bytes) (option_map (used_of n room area) o)) × (copied_into n room area o out ≡ collected_into (option_map (used_of n room area) o) out)
      as_used None e h = (refl, refl)
      as_used (Some x) e h =
          let p = Each-find (IsNote reading writing) head read_notes.uncollected x e read_proper.uncollected in
          let least : min x.len (length out) ≡ x.len = omega (arith, h, p.returned) in
          let count = length-bytes_at (buffer_at n room x.tail) x.len area (collected_inside head x e) in (
            ap Some (least ∙ sym count),
            ap (λ k. written 0 (bytes_at (buffer_at n room x.tail) k area) out) least,
          )

      pub len_known : IfSome (lists_unless lent (lists_of n room area v)) (λ l. option_map (λ (x : Note). min x.len (length out)) (find (has_head head) read_notes.uncollected) ≡ option_map (λ (u : Used). length u.bytes) (used_with head l))
      len_known = go lent refl holds
        where
          go : (b : Bool) → lent ≡ b → IfSome (lists_unless b (lists_of n room area v)) (λ l. IfSome (used_with head l) (λ u. u.write ≤ length out))
              → IfSome (lists_unless b (lists_of n room area v)) (λ l. option_map (λ (x : Note). min x.len (length out)) (find (has_head head) read_notes.uncollected) ≡ option_map (λ (u : Used). length u.bytes) (used_with head l))
          go true e h = tt
          go false e h =
              let f = used_found e in
              let k : IfSome (option_map (used_of n room area) (find (has_head head) read_notes.uncollected)) (λ u. u.write ≤ length out) = subst (λ o. IfSome o (λ u. u.write ≤ length out)) f h in
              (as_used (find (has_head head) read_notes.uncollected) refl k).0 ∙ ap (option_map (λ (u : Used). length u.bytes)) (sym f)

      pub bytes_known : IfSome (lists_unless lent (lists_of n room area v)) (λ l. copied_into n room area (find (has_head head) read_notes.uncollected) out ≡ collected_into (used_with head l) out)
      bytes_known = go lent refl holds
        where
          go : (b : Bool) → lent ≡ b → IfSome (lists_unless b (lists_of n room area v)) (λ l. IfSome (used_with head l) (λ u. u.write ≤ length out))
              → IfSome (lists_unless b (lists_of n room area v)) (λ l. copied_into n room area (find (has_head head) read_notes.uncollected) out ≡ collected_into (used_with head l) out)
          go true e h = tt
          go false e h =
              let f = used_found e in
              let k : IfSome (option_map (used_of n room area) (find (has_head head) read_notes.uncollected)) (λ u. u.write ≤ length out) = subst (λ o. IfSome o (λ u. u.write ≤ length out)) f h in
              (as_used (find (has_head head) read_notes.uncollected) refl k).1 ∙ ap (λ o. collected_into o out) (sym f)
