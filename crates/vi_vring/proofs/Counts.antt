-- What the lists of contracts count: the free descriptors, and the chains with a head.
use Rattle.std.proofs.Common.{◌≡◌, ℕ, ◌+◌, ◌<◌, ◌≤◌, Bool, true, false, List, [], ◌∷◌, ◌++◌, length, map, ◌↔◌, refl, ap, sym, ◌∙◌, arith}
use Rattle.std.specs.Prelude.{IfSome, sum_by, count_by, ◌==◌, if◌then◌else◌}
use Rattle.std.proofs.lemmas.List.Sums.{sum_by-cons}
use Rattle.std.proofs.lemmas.Bool.Decides.{nat_tests}
use Rattle.vi_vring.specs.declared.note.Note.{Note}
use Rattle.vi_vring.specs.Layout.{buffer_at}
use Rattle.vi_vring.specs.Writes.{bytes_at}
use Rattle.vi_vring.specs.Values.{Queued, Used}
use Rattle.vi_vring.specs.Moves.{chain_needs, queued_needs, used_needs, free_count, head_count}
use Rattle.vi_vring.specs.Notes.{NoteLists, needs_of, needs, tally, tally_all, one, uses}
use Rattle.vi_vring.specs.Tied.{Each, IsNote, IsSound, queued_of, used_of, lists_of, lists_unless}
use Rattle.vi_vring.proofs.NoteLemmas.{tally-append}
use Rattle.vi_vring.proofs.Members.{Each-append}
use Rattle.vi_vring.proofs.Laid.{buffer_end}
use Rattle.vi_vring.proofs.Sounds.{table, note_head, length-bytes_at}

pub needs_is : (r w : ℕ) → 1 ≤ r + w → chain_needs r w ≡ needs_of r w
needs_is r w h = grind (arith, nat_tests)

module _ (n reading writing room : ℕ) (area : List ℕ) (taken seen : ℕ) (lent : Bool) (v : NoteLists) (s : IsSound n reading writing room area taken seen lent v) where
  queued_sum : (xs : List Note) → Each (IsNote reading writing) xs → ((d : ℕ) → tally (uses d) xs ≤ tally_all (uses d) v) → sum_by queued_needs (map (queued_of n room area) xs) ≡ tally needs xs
  queued_sum [] p le = refl
  queued_sum (x ∷ xs) p le =
      let head = note_head n reading writing room area taken seen lent v s x p.0 (λ d. omega (arith, le d)) in
      let end = buffer_end n room (length area) x.head (table n reading writing room area taken seen lent v s) head in
      let count : length (bytes_at (buffer_at n room x.head) x.read area) ≡ x.read = length-bytes_at (buffer_at n room x.head) x.read area (omega (arith, end, p.0.readable, s.readable)) in
      let mine : queued_needs (queued_of n room area x) ≡ needs x = ap (λ k. chain_needs k x.write) count ∙ needs_is x.read x.write p.0.some in
      let rest = queued_sum xs p.1 (λ d. omega (arith, le d)) in
      sum_by-cons queued_needs (queued_of n room area x) (map (queued_of n room area) xs) ∙ ap (λ k. k + sum_by queued_needs (map (queued_of n room area) xs)) mine ∙ ap (λ k. needs x + k) rest

  used_sum : (xs : List Note) → Each (IsNote reading writing) xs → sum_by used_needs (map (used_of n room area) xs) ≡ tally needs xs
  used_sum [] p = refl
  used_sum (x ∷ xs) p =
      let rest = used_sum xs p.1 in
      sum_by-cons used_needs (used_of n room area x) (map (used_of n room area) xs) ∙ ap (λ k. k + sum_by used_needs (map (used_of n room area) xs)) (needs_is x.read x.write p.0.some) ∙ ap (λ k. needs x + k) rest

  pub free_is : length v.free ≡ free_count n (lists_of n room area v)
  free_is =
      let a = queued_sum v.available s.proper.available (λ d. omega arith) in
      let p = queued_sum v.popped s.proper.popped (λ d. omega arith) in
      let u = used_sum (v.uncollected ++ v.unread) (Each-append (IsNote reading writing) v.uncollected v.unread s.proper.uncollected s.proper.unread) in
      let j = tally-append needs v.uncollected v.unread in
      omega (arith, a, p, u, j, s.whole.all, s.table)

  pub full_known : (needed : ℕ) (P : Type 0) → ((free : ℕ) → free ≡ length v.free → P → free < needed) → ((free : ℕ) → free ≡ length v.free → free < needed → P)
      → IfSome (lists_unless lent (lists_of n room area v)) (λ l. P ↔ (free_count n l < needed))
  full_known needed P out in' = go lent
    where
      go : (b : Bool) → IfSome (lists_unless b (lists_of n room area v)) (λ l. P ↔ (free_count n l < needed))
      go true = tt
      go false = (out (free_count n (lists_of n room area v)) (sym free_is), in' (free_count n (lists_of n room area v)) (sym free_is))

-- a chain that doesn't use a descriptor hasn't that head
pub queued_heads : (n room h : ℕ) (area : List ℕ) (xs : List Note) → tally (uses h) xs ≡ 0 → count_by (λ (q : Queued). q.head == h) (map (queued_of n room area) xs) ≡ 0
queued_heads n room h area [] z = refl
queued_heads n room h area (x ∷ xs) z =
    let rest = queued_heads n room h area xs (omega (arith, z)) in
    let mine : one h x.head ≡ 0 = omega (arith, z) in
    sum_by-cons (λ (q : Queued). if q.head == h then 1 else 0) (queued_of n room area x) (map (queued_of n room area) xs) ∙ omega (arith, rest, mine)

used_heads : (n room h : ℕ) (area : List ℕ) (xs : List Note) → tally (uses h) xs ≡ 0 → count_by (λ (u : Used). u.head == h) (map (used_of n room area) xs) ≡ 0
used_heads n room h area [] z = refl
used_heads n room h area (x ∷ xs) z =
    let rest = used_heads n room h area xs (omega (arith, z)) in
    let mine : one h x.head ≡ 0 = omega (arith, z) in
    sum_by-cons (λ (u : Used). if u.head == h then 1 else 0) (used_of n room area x) (map (used_of n room area) xs) ∙ omega (arith, rest, mine)

pub fresh_known : (n room h : ℕ) (area : List ℕ) (lent : Bool) (v : NoteLists) → tally_all (uses h) v ≡ 0 → IfSome (lists_unless lent (lists_of n room area v)) (λ l. head_count h l ≡ 0)
fresh_known n room h area lent v z = go lent
  where
    go : (b : Bool) → IfSome (lists_unless b (lists_of n room area v)) (λ l. head_count h l ≡ 0)
    go true = tt
    go false =
        let a = queued_heads n room h area v.available (omega (arith, z)) in
        let p = queued_heads n room h area v.popped (omega (arith, z)) in
        let j = tally-append (uses h) v.uncollected v.unread in
        let u = used_heads n room h area (v.uncollected ++ v.unread) (omega (arith, j, z)) in
        omega (arith, a, p, u)

-- how many chains have a head, as notes
pub head_tally : (n room h : ℕ) (area : List ℕ) (xs : List Note) → count_by (λ (q : Queued). q.head == h) (map (queued_of n room area) xs) ≡ tally (λ x. one h x.head) xs
head_tally n room h area [] = refl
head_tally n room h area (x ∷ xs) =
    let rest = head_tally n room h area xs in
    sum_by-cons (λ (q : Queued). if q.head == h then 1 else 0) (queued_of n room area x) (map (queued_of n room area) xs) ∙ ap (λ k. one h x.head + k) rest

pub heads_le_uses : (h : ℕ) (xs : List Note) → tally (λ x. one h x.head) xs ≤ tally (uses h) xs
heads_le_uses h [] = omega arith
heads_le_uses h (x ∷ xs) = omega (arith, heads_le_uses h xs)
