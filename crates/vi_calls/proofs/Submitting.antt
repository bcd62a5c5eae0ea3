-- The fields that keep the open calls, with a request more in the queue.
use Rattle.std.proofs.Common.{◌≡◌, ℕ, ◌+◌, ◌<◌, ◌≤◌, ◌↔◌, List, [], ◌∷◌, ◌++◌, length, map, set, Some, IfSome, Result, IsOk, IsErr, refl, ap, sym, ◌∙◌, length-set, length-append, arith}
use Rattle.std.proofs.lemmas.List.{length-map}
use Rattle.vi_vring.specs.Values as ring
use Rattle.vi_vring.specs.Moves.{IsAdded, ShowsPopped, lists_after_add, head_count, free_count, chain_needs}
use Rattle.vi_calls.specs.declared.calls.Submitted.{Submitted}
use Rattle.vi_calls.specs.declared.calls.Calls.TheInside.{Inside}
use Rattle.vi_calls.specs.Value.{open_count}
use Rattle.vi_calls.specs.Moves.{with_queued}
use Rattle.vi_calls.specs.Inner.{lists_or, queued_by, seen, IsKept}
use Rattle.vi_calls.proofs.Submits.{chain-needs, has-room, submit-is, AreTied-submit}
use Rattle.vi_calls.proofs.Known.{of-known, known-after, still-known, lists-are, ok-enough}

module _ (p : Inside) (k : IsKept p) where
  pub submit-few : open_count (seen p) < 8 → p.queued < 8
  submit-few few =
      let l = lists_or p.ring.lists in
      let queue : length (map (queued_by p.submitted) l.available) ≡ length l.available = length-map l.available _ in
      omega (arith, few, queue, k.count)

  pub submit-ok : {T E : Type 0} (r : Result T E) (read write : ℕ) → open_count (seen p) < 8
      → IfSome p.ring.lists (λ l. IsErr r ↔ (free_count p.ring.size l < chain_needs read write)) → IsOk r
  submit-ok r read write few full =
      let l = lists_or p.ring.lists in
      let free = has-room p.submitted p.rows.items l k.tied p.ring.size k.ring_whole.some few in
      ok-enough r (free_count p.ring.size l) (chain_needs read write)
      (of-known p.ring.lists (λ l. IsErr r ↔ (free_count p.ring.size l < chain_needs read write)) k.ring_whole.known full)
      (omega (arith, chain-needs read write, free))

  module _ (r : ring.RingValue) (head : ℕ) (bytes : List ℕ) (write : ℕ) (line : Submitted) (added : IsAdded head bytes write p.ring r)
      (fresh : (head < p.ring.size) × IfSome p.ring.lists (λ l. head_count head l ≡ 0)) where
    none : head_count head (lists_or p.ring.lists) ≡ 0
    none = of-known p.ring.lists (λ l. head_count head l ≡ 0) k.ring_whole.known fresh.1

    known : r.lists ≡ Some (lists_after_add head bytes write (lists_or p.ring.lists))
    known = known-after p.ring.lists r.lists (lists_after_add head bytes write) k.ring_whole.known added.lists

    counted : (qs : List ring.Queued) → qs ≡ (lists_or p.ring.lists).available → p.queued + 1 ≡ length (qs ++ record { head = head; readable = bytes; writable = write } ∷ [])
    counted qs e = let few : length qs ≡ p.queued = ap (λ qs. length qs) e ∙ sym k.count in omega (arith, few, length-append qs (record { head = head; readable = bytes; writable = write } ∷ []))

    within : head < length p.submitted
    within = omega (arith, fresh.0, k.ring_whole.most, k.table)

    pub seen-submit : seen (record p { ring = r; queued = p.queued + 1; submitted = set p.submitted head line })
        ≡ with_queued (record { driver = line.driver; line = line.line; read = bytes; write = write }) (seen p)
    seen-submit =
        rw (lists-are r.lists _ known)
        (submit-is p.submitted p.rows.items (lists_or p.ring.lists) k.tied head bytes write line none within)

    pub IsKept-submit : ShowsPopped r → line.driver < 8 → line.read ≡ length bytes → line.write ≡ write → length bytes ≤ 1024 → IsKept (record p { ring = r; queued = p.queued + 1; submitted = set p.submitted head line })
    IsKept-submit shows driver read wrote small =
        let whole = k.ring_whole in
        let below : head < 256 = omega (arith, fresh.0, whole.most) in
        record {
          ring_whole = record {
            some = rw added.size whole.some;
            most = rw added.size whole.most;
            reading = added.reading ∙ whole.reading;
            writing = added.writing ∙ whole.writing;
            known = still-known r.lists _ known;
            shows = shows;
          };
          count = rw (lists-are r.lists _ known) (counted (lists_or p.ring.lists).available refl);
          table = length-set p.submitted head line ∙ k.table;
          drivers = k.drivers;
          tied = rw (lists-are r.lists _ known) (AreTied-submit p.submitted p.rows.items (lists_or p.ring.lists) k.tied head bytes write line none within below driver read wrote small);
        }
