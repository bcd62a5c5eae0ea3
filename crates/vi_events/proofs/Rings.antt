-- What the calls of a ring do to the event buffers.
use Rattle.std.proofs.Common.{◌≡◌, ◌<◌, ◌↔◌, ◌+◌, ◌-◌, ℕ, List, [], ◌∷◌, length, Some, Result, Ok, Err, IfSome, IsOk, IsErr, refl, ap, sym, ◌∙◌, arith, eq-eqb, append-nil}
use Rattle.std.proofs.Math.Seq.{drop-length}
use Rattle.std.specs.Prelude.{sum_by, slice_get, drop}
use Rattle.std.specs.List.{AllByRecursion}
use Rattle.std.proofs.lemmas.List.Sums.{sum_by-cons}
use Rattle.vi_vring.specs.Values.{Queued, Used, Lists, RingValue}
use Rattle.vi_vring.specs.Moves.{lists_after_collect, ring_after_collect, used_with, collected_into, queued_needs, used_needs, chain_needs, free_count}
use Rattle.vi_events.specs.Buffers.{IsEmptyBuffer, IsFullBuffer, lists_in, records_in}
use Rattle.vi_events.specs.Inside.{AreBuffers, IsEventRing, used_heads}

-- each buffer has one descriptor
empty_needs : (qs : List Queued) → AllByRecursion IsEmptyBuffer qs → sum_by queued_needs qs ≡ length qs
empty_needs [] all = refl
empty_needs (q ∷ qs) all =
    let mine : queued_needs q ≡ 1 = rw (all.0.read, all.0.write) refl in
    sum_by-cons queued_needs q qs ∙ omega (arith, mine, empty_needs qs all.1)

full_needs : (us : List Used) → AllByRecursion IsFullBuffer us → sum_by used_needs us ≡ length us
full_needs [] all = refl
full_needs (u ∷ us) all =
    let mine : used_needs u ≡ 1 = rw (all.0.read, all.0.write) refl in
    sum_by-cons used_needs u us ∙ omega (arith, mine, full_needs us all.1)

free_count-is : (size : ℕ) (l : Lists) → AreBuffers size l → free_count size l ≡ size - (length l.used + length l.available)
free_count-is size l b = rw (empty_needs l.available b.empty, full_needs l.used b.full, b.popped) (omega arith)

-- a ring whose buffers aren't all there takes one more
pub takes_one_more : {H F : Type 0} (v : RingValue) (r : Result H F) → IsEventRing v → length (lists_in v).used + length (lists_in v).available < v.size
    → IfSome v.lists (λ l. IsErr r ↔ (free_count v.size l < chain_needs 0 24)) → IsOk r
takes_one_more v (Ok h) e room full = refl
takes_one_more v (Err f) e room full =
    let none = rw e.known at full in
    let few : free_count v.size (lists_in v) < 1 = none.0 refl in
    absurd (omega (arith, room, few, free_count-is v.size (lists_in v) e.buffers))

-- the first record's chain is collected
AreBuffers-collect : (size head : ℕ) (l : Lists) → AreBuffers size l → slice_get (used_heads l) 0 ≡ Some head → AreBuffers size (lists_after_collect head l)
AreBuffers-collect size head l b first = go l.used refl first
  where
    go : (us : List Used) → l.used ≡ us → slice_get (used_heads l) 0 ≡ Some head → AreBuffers size (lists_after_collect head l)
    go [] e at = absurd (let none = rw e at at in cc)
    go (u ∷ us) e at =
        let same = rw e at at in
        let here : u.head ≡ head = cc in
        let all = rw e at b.full in
        let few = rw e at b.few in
        let rest : (lists_after_collect head l).used ≡ us = rw (e, eq-eqb u.head head here) refl in
        record { empty = b.empty; full = rw rest all.1; popped = b.popped; few = rw rest (omega (arith, few)) }

pub IsEventRing-collect : (head : ℕ) (v : RingValue) → IsEventRing v → slice_get (used_heads (lists_in v)) 0 ≡ Some head → IsEventRing (ring_after_collect head v)
IsEventRing-collect head v e first = rw e.known (record { known = refl; reading = e.reading; writing = e.writing; buffers = AreBuffers-collect v.size head (lists_in v) e.buffers first })

pub collected_into-first : (size head : ℕ) (l : Lists) (out : List ℕ) → AreBuffers size l → length out ≡ 24 → slice_get (used_heads l) 0 ≡ Some head
    → slice_get (records_in l) 0 ≡ Some (collected_into (used_with head l) out)
collected_into-first size head l out b room first = go l.used refl first
  where
    go : (us : List Used) → l.used ≡ us → slice_get (used_heads l) 0 ≡ Some head → slice_get (records_in l) 0 ≡ Some (collected_into (used_with head l) out)
    go [] e at = absurd (let none = rw e at at in cc)
    go (u ∷ us) e at =
        let same = rw e at at in
        let here : u.head ≡ head = cc in
        let all = rw e at b.full in
        let used : used_with head l ≡ Some u = rw (e, eq-eqb u.head head here) refl in
        let gone : drop (length u.bytes) out ≡ [] = rw (all.0.whole ∙ sym room) (drop-length out) in
        rw (used, e, gone) (ap (λ bytes. Some bytes) (sym (append-nil u.bytes)))
