-- A pop of a sound ring.
use Rattle.std.proofs.Common.{◌≡◌, ℕ, suc, ◌+◌, ◌%◌, ◌^◌, ◌<◌, ◌≤◌, Bool, true, false, List, [], ◌∷◌, ◌++◌, length, map, Some, Result, Ok, Err, refl, ap, sym, subst, ◌∙◌, arith}
use Rattle.std.specs.Prelude.{IfSome, IsTrue, ◌==◌, if◌then◌else◌}
use Rattle.std.specs.List.{list_any}
use Rattle.std.specs.Option.{option_map}
use Rattle.std.proofs.lemmas.Bool.{eq-eqb, or_left, or_right}
use Rattle.std.proofs.lemmas.List.{map-append}
use Rattle.vi_vring.specs.declared.chain.Break.{Break}
use Rattle.vi_vring.specs.declared.chain.Chain.{Chain as ChainData}
use Rattle.vi_vring.specs.declared.walking.Piece.{Piece}
use Rattle.vi_vring.specs.declared.chain.Popped.{Popped}
use Rattle.vi_vring.specs.declared.chain.Popped.TheVariants.{Chain, Empty, Broken}
use Rattle.vi_vring.specs.declared.note.Note.{Note}
use Rattle.vi_vring.specs.Shown.{shown}
use Rattle.vi_vring.specs.Device.{available_index, head_at, popped_as, popped_of, returned_broken, area_after_pop, taken_by, taken_after_pop}
use Rattle.vi_vring.specs.Values.{Queued}
use Rattle.vi_vring.specs.Moves.{first_popped, moved_first, lists_after_pop, FirstIsFresh, IfChain, is_popped}
use Rattle.vi_vring.specs.Notes.{NoteLists, has_head, tally, tally_all, uses, Whole, noted_pop, noted_popped, popped_if, popped_first}
use Rattle.vi_vring.specs.Tied.{Each, IsNote, IsLaid, IsSound, Tied, Entries, Proper, queued_of, lists_of, lists_unless}
use Rattle.vi_vring.proofs.NoteLemmas.{length-le-needs}
use Rattle.vi_vring.proofs.Wholes.{whole_pop}
use Rattle.vi_vring.proofs.Members.{Each-push, proper_pop, uses_head}
use Rattle.vi_vring.proofs.Rings.{wrapped_place, Entries_place}
use Rattle.vi_vring.proofs.Pops.{popped_empty, popped_at, area_popped, taken_popped}
use Rattle.vi_vring.proofs.Counts.{queued_heads}
use Rattle.vi_vring.proofs.Sounds.{note_head, noted_chain, note_popped_as, note_chain}

-- what is popped while the lists are known
abbrev pub popped_note : List Note → Popped
popped_note [] = Empty
popped_note (x ∷ xs) = Chain (noted_chain x)

pub whole_popped : (p : Popped) (v : NoteLists) → Whole v → Whole (noted_popped p v)
whole_popped (Chain chain) v w = whole_pop chain.head v w
whole_popped Empty v w = w
whole_popped (Broken fault) v w = w

pub proper_popped : (r w : ℕ) (p : Popped) (v : NoteLists) → Proper r w v → Proper r w (noted_popped p v)
proper_popped r w (Chain chain) v q = proper_pop r w v q chain.head
proper_popped r w Empty v q = q
proper_popped r w (Broken fault) v q = q

pub size_popped : (p : Popped) (v : NoteLists) → (noted_popped p v).size ≡ v.size
size_popped (Chain chain) v = go v.available
  where
    moved : (b : Bool) (x : Note) (xs : List Note) → (popped_if b x xs v).size ≡ v.size
    moved true x xs = refl
    moved false x xs = refl

    go : (av : List Note) → (popped_first chain.head av v).size ≡ v.size
    go [] = refl
    go (x ∷ xs) = moved (has_head chain.head x) x xs
size_popped Empty v = refl
size_popped (Broken fault) v = refl

module _ (n reading writing room : ℕ) (area : List ℕ) (taken seen : ℕ) (v : NoteLists) (s : IsSound n reading writing room area taken seen false v) (small : taken < 2 ^ 16) where
  t : Tied n room area taken seen v
  t = s.tied refl

  popped_is : (av : List Note) → v.available ≡ av → popped_of n area taken ≡ popped_note av
  popped_is [] e =
      let count = ap (λ (xs : List Note). length xs) e in
      popped_empty n area taken (t.available_index ∙ let m : (taken + length v.available) % 2 ^ 16 ≡ taken = omega (arith, count, small) in m)
  popped_is (x ∷ xs) e =
      let count = ap (λ (ys : List Note). length ys) e in
      let most = length-le-needs v.available in
      let p : Each (IsNote reading writing) (x ∷ xs) = subst (λ ys. Each (IsNote reading writing) ys) e s.proper.available in
      let l : Each (IsLaid n room area) (x ∷ xs) = subst (λ ys. Each (IsLaid n room area) ys) e t.available in
      let h : Entries n area taken (x ∷ xs) = subst (λ ys. Entries n area taken ys) e t.entries in
      let le : (d : ℕ) → uses d x ≤ tally_all (uses d) v = λ d. let q = ap (tally (uses d)) e in omega (arith, q) in
      let apart : available_index n area ≡ taken → ⊥ = λ f. absurd (omega (arith, t.available_index, f, count, most, small, s.whole.all, s.table, s.most)) in
      popped_at n area taken (available_index n area) x.head (shown n area x.head) refl apart (sym h.0) refl
      ∙ note_popped_as n reading writing room area taken seen false v s x p.0 le l.0

  -- the notes follow
  noted_is : (x : Note) (xs : List Note) → v.available ≡ x ∷ xs → noted_pop x.head v ≡ record v { available = xs; popped = v.popped ++ x ∷ [] }
  noted_is x xs e = ap (λ av. popped_first x.head av v) e ∙ ap (λ b. popped_if b x xs v) (eq-eqb x.head x.head refl)

  tied_after : (av : List Note) → v.available ≡ av → Tied n room (returned_broken n (head_at n area taken) (popped_note av) area) (taken_by (popped_note av) taken) seen (noted_popped (popped_note av) v)
  tied_after [] e = t
  tied_after (x ∷ xs) e =
      let count = ap (λ (ys : List Note). length ys) e in
      let l : Each (IsLaid n room area) (x ∷ xs) = subst (λ ys. Each (IsLaid n room area) ys) e t.available in
      let h : Entries n area taken (x ∷ xs) = subst (λ ys. Entries n area taken ys) e t.entries in
      let f : suc taken ≡ taken + 1 = omega arith in
      subst (λ w. Tied n room area ((taken + 1) % 2 ^ 16) seen w) (sym (noted_is x xs e)) (record {
        available_index = t.available_index ∙ let m : (taken + length v.available) % 2 ^ 16 ≡ ((taken + 1) % 2 ^ 16 + length xs) % 2 ^ 16 = omega (arith, count) in m;
        entries = Entries_place n area (suc taken) ((taken + 1) % 2 ^ 16) xs (ap (λ i. i % n) f ∙ sym (wrapped_place n (taken + 1) s.divides)) h.1;
        used_index = t.used_index;
        elements = t.elements;
        available = l.1;
        popped = Each-push (IsLaid n room area) v.popped x t.popped l.0;
      })

  lists_after : (av : List Note) → v.available ≡ av
      → lists_of n room (returned_broken n (head_at n area taken) (popped_note av) area) (noted_popped (popped_note av) v) ≡ lists_after_pop (lists_of n room area v)
  lists_after [] e = ap (λ av. moved_first (map (queued_of n room area) av) (lists_of n room area v)) (sym e)
  lists_after (x ∷ xs) e =
      ap (lists_of n room area) (noted_is x xs e)
      ∙ ap (λ qs. record (lists_of n room area v) { available = map (queued_of n room area) xs; popped = qs }) (map-append (queued_of n room area) v.popped (x ∷ []))
      ∙ ap (λ av. moved_first (map (queued_of n room area) av) (lists_of n room area v)) (sym e)

  first_is : (av : List Note) → v.available ≡ av → popped_note av ≡ first_popped (lists_of n room area v).available
  first_is [] e = ap (λ av. first_popped (map (queued_of n room area) av)) (sym e)
  first_is (x ∷ xs) e =
      let p : Each (IsNote reading writing) (x ∷ xs) = subst (λ ys. Each (IsNote reading writing) ys) e s.proper.available in
      let le : (d : ℕ) → uses d x ≤ tally_all (uses d) v = λ d. let q = ap (tally (uses d)) e in omega (arith, q) in
      ap Chain (sym (note_chain n reading writing room area taken seen false v s x p.0 le)) ∙ ap (λ av. first_popped (map (queued_of n room area) av)) (sym e)

  pub pop_tied : Tied n room (area_after_pop n taken area) (taken_after_pop n area taken) seen (noted_popped (popped_of n area taken) v)
  pop_tied =
      let p = popped_is v.available refl in
      rw (area_popped n area taken (popped_note v.available) p, taken_popped n area taken (popped_note v.available) p, p) (tied_after v.available refl)

  pub pop_lists : lists_of n room (area_after_pop n taken area) (noted_popped (popped_of n area taken) v) ≡ lists_after_pop (lists_of n room area v)
  pop_lists =
      let p = popped_is v.available refl in
      rw (area_popped n area taken (popped_note v.available) p, p) (lists_after v.available refl)

  pub pop_first : popped_of n area taken ≡ first_popped (lists_of n room area v).available
  pop_first = popped_is v.available refl ∙ first_is v.available refl

  fresh_first : (av : List Note) → v.available ≡ av → FirstIsFresh n (lists_of n room area v) (map (queued_of n room area) av)
  fresh_first [] e = tt
  fresh_first (x ∷ xs) e =
      let p : Each (IsNote reading writing) (x ∷ xs) = subst (λ ys. Each (IsNote reading writing) ys) e s.proper.available in
      let le : (d : ℕ) → uses d x ≤ tally_all (uses d) v = λ d. let q = ap (tally (uses d)) e in omega (arith, q) in
      let q = ap (tally (uses x.head)) e in
      (note_head n reading writing room area taken seen false v s x p.0 le, queued_heads n room x.head area v.popped (omega (arith, q, s.whole.once x.head, uses_head x)))

  last_is_out : (x : Note) (xs : List Note) → list_any (λ (q : Queued). q.head == x.head) (map (queued_of n room area) (xs ++ x ∷ [])) ≡ true
  last_is_out x [] = or_left (x.head == x.head) false (eq-eqb x.head x.head refl)
  last_is_out x (y ∷ ys) = or_right (y.head == x.head) (list_any (λ (q : Queued). q.head == x.head) (map (queued_of n room area) (ys ++ x ∷ []))) (last_is_out x ys)

  out_after : (av : List Note) → v.available ≡ av → IfChain (popped_note av) (λ chain. is_popped chain (lists_of n room (returned_broken n (head_at n area taken) (popped_note av) area) (noted_popped (popped_note av) v)) ≡ true)
  out_after [] e = tt
  out_after (x ∷ xs) e = ap (λ w. is_popped (noted_chain x) (lists_of n room area w)) (noted_is x xs e) ∙ last_is_out x v.popped

  pub pop_out : IfChain (popped_of n area taken) (λ chain. is_popped chain (lists_of n room (area_after_pop n taken area) (noted_popped (popped_of n area taken) v)) ≡ true)
  pop_out =
      let p = popped_is v.available refl in
      rw (area_popped n area taken (popped_note v.available) p, p) (out_after v.available refl)

  pub pop_fresh : FirstIsFresh n (lists_of n room area v) (lists_of n room area v).available
  pop_fresh = fresh_first v.available refl

-- the chain that is popped is shown, whatever the area is
chosen : (n : ℕ) (area : List ℕ) (head : ℕ) (r : Result (List Piece) Break) → shown n area head ≡ r → IfChain (popped_as head r) (λ chain. popped_as chain.head (shown n area chain.head) ≡ Chain chain)
chosen n area head (Ok pieces) e = ap (popped_as head) e
chosen n area head (Err fault) e = tt

chosen_if : (n : ℕ) (area : List ℕ) (head : ℕ) (b : Bool) → IfChain (if b then Empty else popped_as head (shown n area head)) (λ chain. popped_as chain.head (shown n area chain.head) ≡ Chain chain)
chosen_if n area head true = tt
chosen_if n area head false = chosen n area head (shown n area head) refl

before : (n : ℕ) (area : List ℕ) (taken : ℕ) → IfChain (popped_of n area taken) (λ chain. popped_as chain.head (shown n area chain.head) ≡ Chain chain)
unfolding popped_of
before n area taken = chosen_if n area (head_at n area taken) (available_index n area == taken)

pub pop_shown : (n : ℕ) (area : List ℕ) (taken : ℕ) → IfChain (popped_of n area taken) (λ chain. popped_as chain.head (shown n (area_after_pop n taken area) chain.head) ≡ Chain chain)
pop_shown n area taken = go (popped_of n area taken) refl (before n area taken)
  where
    go : (p : Popped) → popped_of n area taken ≡ p → IfChain p (λ chain. popped_as chain.head (shown n area chain.head) ≡ Chain chain)
        → IfChain p (λ chain. popped_as chain.head (shown n (area_after_pop n taken area) chain.head) ≡ Chain chain)
    go (Chain chain) e h = ap (λ a. popped_as chain.head (shown n a chain.head)) (area_popped n area taken (Chain chain) e) ∙ h
    go Empty e h = tt
    go (Broken fault) e h = tt

-- and while they aren't
module _ (n reading writing room : ℕ) (area : List ℕ) (taken seen : ℕ) (lent : Bool) (v : NoteLists) (s : IsSound n reading writing room area taken seen lent v) (small : taken < 2 ^ 16) where
  pub pop_sound : length (area_after_pop n taken area) ≡ length area
      → IsSound n reading writing room (area_after_pop n taken area) (taken_after_pop n area taken) seen lent (noted_popped (popped_of n area taken) v)
  pop_sound len = record {
    some = s.some;
    most = s.most;
    divides = s.divides;
    table = size_popped (popped_of n area taken) v ∙ s.table;
    bytes = len ∙ s.bytes;
    small = s.small;
    readable = s.readable;
    writable = s.writable;
    whole = whole_popped (popped_of n area taken) v s.whole;
    proper = proper_popped reading writing (popped_of n area taken) v s.proper;
    tied = λ e. pop_tied n reading writing room area taken seen v (subst (λ b. IsSound n reading writing room area taken seen b v) e s) small;
  }

  pub pop_seen : lists_unless lent (lists_of n room (area_after_pop n taken area) (noted_popped (popped_of n area taken) v)) ≡ option_map lists_after_pop (lists_unless lent (lists_of n room area v))
  pop_seen = go lent s
    where
      go : (b : Bool) → IsSound n reading writing room area taken seen b v
          → lists_unless b (lists_of n room (area_after_pop n taken area) (noted_popped (popped_of n area taken) v)) ≡ option_map lists_after_pop (lists_unless b (lists_of n room area v))
      go true q = refl
      go false q = ap Some (pop_lists n reading writing room area taken seen v q small)

  pub pop_known : IfSome (lists_unless lent (lists_of n room area v)) (λ l. popped_of n area taken ≡ first_popped l.available)
  pop_known = go lent s
    where
      go : (b : Bool) → IsSound n reading writing room area taken seen b v → IfSome (lists_unless b (lists_of n room area v)) (λ l. popped_of n area taken ≡ first_popped l.available)
      go true q = tt
      go false q = pop_first n reading writing room area taken seen v q small

  pub pop_fresh_known : IfSome (lists_unless lent (lists_of n room area v)) (λ l. FirstIsFresh n l l.available)
  pop_fresh_known = go lent s
    where
      go : (b : Bool) → IsSound n reading writing room area taken seen b v → IfSome (lists_unless b (lists_of n room area v)) (λ l. FirstIsFresh n l l.available)
      go true q = tt
      go false q = pop_fresh n reading writing room area taken seen v q small

  pub pop_out_known : IfChain (popped_of n area taken) (λ chain. IfSome (lists_unless lent (lists_of n room (area_after_pop n taken area) (noted_popped (popped_of n area taken) v))) (λ l. IsTrue (is_popped chain l)))
  pop_out_known = go lent s
    where
      each : (p : Popped) (P Q : ChainData → Type 0) → ((c : ChainData) → P c → Q c) → IfChain p P → IfChain p Q
      each (Chain c) P Q f h = f c h
      each Empty P Q f h = tt
      each (Broken fault) P Q f h = tt

      all : (p : Popped) (Q : ChainData → Type 0) → ((c : ChainData) → Q c) → IfChain p Q
      all (Chain c) Q f = f c
      all Empty Q f = tt
      all (Broken fault) Q f = tt

      go : (b : Bool) → IsSound n reading writing room area taken seen b v
          → IfChain (popped_of n area taken) (λ chain. IfSome (lists_unless b (lists_of n room (area_after_pop n taken area) (noted_popped (popped_of n area taken) v))) (λ l. IsTrue (is_popped chain l)))
      go true q = all (popped_of n area taken) _ (λ c. tt)
      go false q = pop_out n reading writing room area taken seen v q small
