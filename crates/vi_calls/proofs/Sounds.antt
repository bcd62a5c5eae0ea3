-- The open calls are sound.
use Rattle.std.proofs.Common.{ℕ, ◌≤◌, ◌<◌, List, [], ◌∷◌, map, arith, ◌∙◌}
use Rattle.std.specs.Prelude.{count_by}
use Rattle.std.specs.List.{AllByRecursion}
use Rattle.std.proofs.lemmas.List.{length-map}
use Rattle.vi_vring.specs.Values as ring
use Rattle.vi_calls.specs.declared.calls.Submitted.{Submitted}
use Rattle.vi_calls.specs.declared.calls.Calls.TheInside.{Inside}
use Rattle.vi_calls.specs.Sound.{IsOfDriver, IsInChain, AreSound}
use Rattle.vi_calls.specs.Inner.{lists_or, queued_by, taken_by, port_by, seen, Fits, IsKept}
use Rattle.vi_calls.proofs.Counting.{count-cons, one-same, has}
use Rattle.vi_calls.proofs.Tables.{queued_head}
use Rattle.vi_calls.proofs.Takes.{count-taken}

of-drivers : (table : List Submitted) (qs : List ring.Queued) → AllByRecursion (Fits table) qs → AllByRecursion IsOfDriver (map (queued_by table) qs)
of-drivers table [] fits = tt
of-drivers table (q ∷ qs) fits = (fits.0.driver, of-drivers table qs fits.1)

-- each of the last chains is counted among all
in-chains : (table : List Submitted) (all qs : List ring.Queued) → ((head : ℕ) → 1 ≤ count_by (has queued_head head) all → head < 256)
    → ((head : ℕ) → count_by (has queued_head head) qs ≤ count_by (has queued_head head) all) → AllByRecursion (Fits table) qs → AllByRecursion IsInChain (map (taken_by table) qs)
in-chains table all [] below some fits = tt
in-chains table all (q ∷ qs) below some fits =
    let here = below q.head (omega (arith, some q.head, count-cons (has queued_head q.head) q qs, one-same q.head)) in
    (record { head = here; driver = fits.0.driver }, in-chains table all qs below (λ head. omega (arith, some head, count-cons (has queued_head head) q qs)) fits.1)

pub are-sound : (p : Inside) → IsKept p → AreSound (seen p)
are-sound p k =
    let l = lists_or p.ring.lists in
    record {
      rows = length-map p.rows.items (port_by l.used) ∙ k.drivers;
      once = λ head. omega (arith, count-taken p.submitted head l.popped, k.tied.once head);
      queued = of-drivers p.submitted l.available k.tied.available;
      taken = in-chains p.submitted l.popped l.popped (λ head some. k.tied.below head (omega (arith, some))) (λ head. omega arith) k.tied.popped;
    }
