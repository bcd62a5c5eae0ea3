-- A request goes to the end of the queue.
use Rattle.std.proofs.Common.{◌≡◌, ℕ, ◌+◌, ◌*◌, ◌<◌, ◌≤◌, Bool, true, false, List, [], ◌∷◌, length, map, set, refl, ap, subst, arith}
use Rattle.std.specs.Prelude.{count_by, sum_by, ◌==◌}
use Rattle.std.proofs.lemmas.Bool.Decides.{nat_tests}
use Rattle.std.proofs.lemmas.List.{map-append, length-map}
use Rattle.std.proofs.lemmas.List.Sums.{sum_by-cons, count_by-le-length}
use Rattle.vi_vring.specs.Values as ring
use Rattle.vi_vring.specs.Moves.{lists_after_add, head_count, part_needs, chain_needs, queued_needs, used_needs, free_count}
use Rattle.vi_calls.specs.declared.calls.Submitted.{Submitted}
use Rattle.vi_calls.specs.Value.{open_count, answered_count}
use Rattle.vi_calls.specs.Moves.{with_queued}
use Rattle.vi_calls.specs.Rows.{RowValue, is_in_chain}
use Rattle.vi_calls.specs.Inner.{shown, port_by, chains_in, queued_by, taken_by, Fits, AreTied}
use Rattle.vi_calls.proofs.Counting.{one, count-push, All-push, is-at, has}
use Rattle.vi_calls.proofs.Tables.{queued_head, line-new, queued-other, taken-other, Fits-other}

-- a part needs one descriptor at most, so a chain two
part-needs : (n : ℕ) → part_needs n ≤ 1
part-needs n = grind (arith, nat_tests)

pub chain-needs : (read write : ℕ) → chain_needs read write ≤ 2
chain-needs read write = omega (arith, part-needs read, part-needs write)

needed : {X : Type 0} (f : X → ℕ) (xs : List X) → ((x : X) → f x ≤ 2) → sum_by f xs ≤ 2 * length xs
needed f [] two = omega arith
needed f (x ∷ xs) two = omega (arith, sum_by-cons f x xs, two x, needed f xs two)

-- no more chains are used than lines are answered
chains-answered : (used : List ring.Used) (rows : List RowValue) → sum_by chains_in rows ≤ sum_by answered_count (map (port_by used) rows)
chains-answered used [] = omega arith
chains-answered used (r ∷ rows) =
    let mine : answered_count (port_by used r) ≡ length r.answered = length-map r.answered _ in
    omega (arith, sum_by-cons chains_in r rows, sum_by-cons answered_count (port_by used r) (map (port_by used) rows), chains-answered used rows, count_by-le-length is_in_chain r.answered, mine)

module _ (table : List Submitted) (rows : List RowValue) (l : ring.Lists) (t : AreTied table rows l) where
  -- with fewer than 8 open calls there are two free descriptors
  pub has-room : (size : ℕ) → 16 ≤ size → open_count (shown table rows l) < 8 → 2 ≤ free_count size l
  has-room size most few =
      let a = needed queued_needs l.available (λ q. chain-needs (length q.readable) q.writable) in
      let p = needed queued_needs l.popped (λ q. chain-needs (length q.readable) q.writable) in
      let u = needed used_needs l.used (λ u. chain-needs u.read u.write) in
      let queue : length (map (queued_by table) l.available) ≡ length l.available = length-map l.available _ in
      let taken : length (map (taken_by table) l.popped) ≡ length l.popped = length-map l.popped _ in
      omega (arith, a, p, u, queue, taken, chains-answered l.used rows, t.chains, few, most)

  module _ (head : ℕ) (bytes : List ℕ) (write : ℕ) (line : Submitted) (fresh : head_count head l ≡ 0) where
    chain : ring.Queued
    chain = record { head = head; readable = bytes; writable = write }

    available-none : count_by (has queued_head head) l.available ≡ 0
    available-none = omega (arith, fresh)

    popped-none : count_by (has queued_head head) l.popped ≡ 0
    popped-none = omega (arith, fresh)

    pub submit-is : head < length table → shown (set table head line) rows (lists_after_add head bytes write l)
        ≡ with_queued (record { driver = line.driver; line = line.line; read = bytes; write = write }) (shown table rows l)
    submit-is lt =
        rw (
          map-append (queued_by (set table head line)) l.available (record { head = head; readable = bytes; writable = write } ∷ []),
          queued-other table head line l.available available-none,
          taken-other table head line l.popped popped-none,
          line-new table head line lt,
        ) refl

    count-added : (k : ℕ) → head_count k (lists_after_add head bytes write l) ≡ head_count k l + one (head == k)
    count-added k = omega (arith, count-push (has queued_head k) l.available (record { head = head; readable = bytes; writable = write }))

    once-added : (k : ℕ) → head_count k (lists_after_add head bytes write l) ≤ 1
    once-added k = go (head == k) refl
      where
        go : (b : Bool) → (head == k) ≡ b → head_count k (lists_after_add head bytes write l) ≤ 1
        go true e = let same : head_count k l ≡ 0 = subst (λ n. head_count n l ≡ 0) (is-at head k e) fresh in let w : one (head == k) ≡ 1 = ap one e in omega (arith, count-added k, same, w)
        go false e = let w : one (head == k) ≡ 0 = ap one e in omega (arith, count-added k, t.once k, w)

    below-added : head < 256 → (k : ℕ) → 1 ≤ head_count k (lists_after_add head bytes write l) → k < 256
    below-added lt k some = go (head == k) refl
      where
        go : (b : Bool) → (head == k) ≡ b → k < 256
        go true e = subst (λ n. n < 256) (is-at head k e) lt
        go false e = let w : one (head == k) ≡ 0 = ap one e in t.below k (omega (arith, count-added k, w, some))

    pub AreTied-submit : head < length table → head < 256 → line.driver < 8 → line.read ≡ length bytes → line.write ≡ write → length bytes ≤ 1024
        → AreTied (set table head line) rows (lists_after_add head bytes write l)
    AreTied-submit within lt driver read wrote small =
        let new = line-new table head line within in
        record {
          once = once-added;
          below = below-added lt;
          owned = t.owned;
          chains = t.chains;
          available = All-push (Fits (set table head line)) l.available (record { head = head; readable = bytes; writable = write })
              (Fits-other table head line l.available available-none t.available)
              (record { driver = rw new driver; read = rw new read; write = rw new wrote; small = small });
          popped = Fits-other table head line l.popped popped-none t.popped;
          replies = t.replies;
        }
