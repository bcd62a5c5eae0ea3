-- What holds of a sound ring's chains.
use Rattle.std.proofs.Common.{◌≡◌, ℕ, ◌+◌, ◌<◌, ◌≤◌, Bool, true, false, List, [], ◌∷◌, length, drop, map, Ok, refl, ap, sym, ◌∙◌, arith}
use Rattle.std.specs.Prelude.{All, IfSome}
use Rattle.std.proofs.lemmas.List.{length-take-le, length-drop}
use Rattle.std.proofs.lemmas.List.Elements.{All-nil, All-cons}
use Rattle.vi_vring.specs.declared.chain.Chain.{Chain as ChainData}
use Rattle.vi_vring.specs.declared.chain.Popped.TheVariants.{Chain}
use Rattle.vi_vring.specs.declared.note.Note.{Note}
use Rattle.vi_vring.specs.Layout.{buffer_at}
use Rattle.vi_vring.specs.Writes.{bytes_at}
use Rattle.vi_vring.specs.Shown.{shown, write_total}
use Rattle.vi_vring.specs.Parts.{readable_bytes}
use Rattle.vi_vring.specs.Device.{popped_as}
use Rattle.vi_vring.specs.Values.{Queued}
use Rattle.vi_vring.specs.Moves.{chain_of, pieces_shown, pieces_or}
use Rattle.vi_vring.specs.Notes.{NoteLists, tally, tally_all, uses}
use Rattle.vi_vring.specs.Tied.{Each, IsNote, IsLaid, IsSound, Tied, queued_of, lists_of, lists_unless}
use Rattle.vi_vring.proofs.Members.{below_size}
use Rattle.vi_vring.proofs.Laid.{IsTable, buffer_end, pieces_of, shown_laid, totals_laid, readable_laid_bytes}

pub length-bytes_at : (at k : ℕ) (area : List ℕ) → at + k ≤ length area → length (bytes_at at k area) ≡ k
length-bytes_at at k area le = let d = length-drop at area in length-take-le k (drop at area) (omega (arith, d, le))

-- a note as the chain that is popped
abbrev pub noted_chain : Note → ChainData
noted_chain x = record { head = x.head; read = x.read; write = x.write }

module _ (n reading writing room : ℕ) (area : List ℕ) (taken seen : ℕ) (lent : Bool) (v : NoteLists) (s : IsSound n reading writing room area taken seen lent v) where
  pub table : IsTable n room (length area)
  table = record { some = s.some; most = s.most; small = s.small; bytes = s.bytes }

  -- a note of the lists, with its lengths, that is laid
  module _ (x : Note) (p : IsNote reading writing x) (le : (d : ℕ) → uses d x ≤ tally_all (uses d) v) where
    pub note_head : x.head < n
    note_head = let b = (below_size reading writing v x s.whole p le).0 in omega (arith, b, s.table)

    pub note_tail : x.tail < n
    note_tail = let b = (below_size reading writing v x s.whole p le).1 in omega (arith, b, s.table)

    pub note_shown : IsLaid n room area x → shown n area x.head ≡ Ok (pieces_of n room x)
    note_shown laid = shown_laid n room area x table note_head note_tail (omega (arith, p.readable, s.readable)) (omega (arith, p.writable, s.writable)) laid p.some p.single

    pub note_popped_as : IsLaid n room area x → popped_as x.head (shown n area x.head) ≡ Chain (noted_chain x)
    note_popped_as laid =
        let t = totals_laid n room x in
        ap (popped_as x.head) (note_shown laid) ∙ ap (λ k. Chain (record { head = x.head; read = k; write = write_total (pieces_of n room x) })) t.0
        ∙ ap (λ k. Chain (record { head = x.head; read = x.read; write = k })) t.1

    pub note_chain : chain_of (queued_of n room area x) ≡ noted_chain x
    note_chain =
        let end = buffer_end n room (length area) x.head table note_head in
        ap (λ k. record { head = x.head; read = k; write = x.write }) (length-bytes_at (buffer_at n room x.head) x.read area (omega (arith, end, p.readable, s.readable)))

    pub note_shows : IsLaid n room area x → popped_as x.head (shown n area x.head) ≡ Chain (chain_of (queued_of n room area x))
    note_shows laid = note_popped_as laid ∙ ap Chain (sym note_chain)

    pub note_readable : IsLaid n room area x → readable_bytes area (pieces_shown n area x.head) ≡ bytes_at (buffer_at n room x.head) x.read area
    note_readable laid = ap (λ r. readable_bytes area (pieces_or r)) (note_shown laid) ∙ readable_laid_bytes n room area x

  each_shows : (xs : List Note) → Each (IsNote reading writing) xs → Each (IsLaid n room area) xs → ((d : ℕ) → tally (uses d) xs ≤ tally_all (uses d) v)
      → All (λ (q : Queued). popped_as q.head (shown n area q.head) ≡ Chain (chain_of q)) (map (queued_of n room area) xs)
  each_shows [] p l le = All-nil (λ (q : Queued). popped_as q.head (shown n area q.head) ≡ Chain (chain_of q))
  each_shows (x ∷ xs) p l le =
      All-cons (λ (q : Queued). popped_as q.head (shown n area q.head) ≡ Chain (chain_of q)) (queued_of n room area x) (map (queued_of n room area) xs)
      (note_shows x p.0 (λ d. omega (arith, le d)) l.0)
      (each_shows xs p.1 l.1 (λ d. omega (arith, le d)))

  -- the area shows each popped chain
  pub shows_popped : IfSome (lists_unless lent (lists_of n room area v)) (λ l. All (λ q. popped_as q.head (shown n area q.head) ≡ Chain (chain_of q)) l.popped)
  shows_popped = go lent s.tied
    where
      go : (b : Bool) → (b ≡ false → Tied n room area taken seen v) → IfSome (lists_unless b (lists_of n room area v)) (λ l. All (λ q. popped_as q.head (shown n area q.head) ≡ Chain (chain_of q)) l.popped)
      go true t = tt
      go false t = each_shows v.popped s.proper.popped (t refl).popped (λ d. omega arith)
