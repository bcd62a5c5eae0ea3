-- The fields that keep the open calls, with the first request taken.
use Rattle.std.proofs.Common.{◌≡◌, ℕ, ◌-◌, [], length, Some, IfSome, ◌⊎◌, inl, inr, ap, sym, ◌∙◌, arith}
use Rattle.std.specs.Prelude.{slice_get}
use Rattle.std.specs.Option.{option_map}
use Rattle.vi_history.specs.Requests.{reading}
use Rattle.vi_history.specs.declared.reading.Reading.{Reading}
use Rattle.vi_vring.specs.Values as ring
use Rattle.vi_vring.specs.declared.chain.Chain.{Chain as ChainData}
use Rattle.vi_vring.specs.declared.chain.Break.{Break}
use Rattle.vi_vring.specs.declared.chain.Popped.{Popped}
use Rattle.vi_vring.specs.declared.chain.Popped.TheVariants.{Chain, Empty, Broken}
use Rattle.vi_vring.specs.Moves.{ShowsPopped, lists_after_pop, first_popped, popped_bytes, ring_after_pop}
use Rattle.vi_model.specs.Starts.{queued_call}
use Rattle.vi_model.specs.declared.task.Task.TheVariants.{Reads}
use Rattle.vi_calls.specs.declared.calls.Calls.TheInside.{Inside}
use Rattle.vi_calls.specs.Inner.{lists_or, line_at, seen, IsKept}
use Rattle.vi_calls.proofs.Takes.{AreTied-pop, after-none, take-empty, take-unbroken, take-count, take-asks}
use Rattle.vi_calls.proofs.Known.{of-known, known-after, still-known, lists-are}

module _ (p : Inside) (k : IsKept p) where
  abbrev l : ring.Lists
  l = lists_or p.ring.lists

  module _ (r : ring.RingValue) (after : r ≡ ring_after_pop p.ring) where
    known : r.lists ≡ Some (lists_after_pop l)
    known = known-after p.ring.lists r.lists lists_after_pop k.ring_whole.known (ap (λ (r : ring.RingValue). r.lists) after)

    kept : ShowsPopped r → (n : ℕ) → n ≡ length (lists_after_pop l).available → IsKept (record p { ring = r; queued = n })
    kept shows n count =
        let whole = k.ring_whole in
        record {
          ring_whole = record {
            some = rw after whole.some;
            most = rw after whole.most;
            reading = rw after whole.reading;
            writing = rw after whole.writing;
            known = still-known r.lists _ known;
            shows = shows;
          };
          count = rw (lists-are r.lists _ known) count;
          table = k.table;
          drivers = k.drivers;
          tied = rw (lists-are r.lists _ known) (AreTied-pop p.submitted p.rows.items l.popped l.used l.available k.tied);
        }

    -- no chain is available
    module _ (popped : Popped) (first : IfSome p.ring.lists (λ l. popped ≡ first_popped l.available)) (nothing : (popped ≡ Empty) ⊎ ((fault : Break) × (popped ≡ Broken fault))) where
      is-empty : l.available ≡ []
      is-empty = go nothing (of-known p.ring.lists (λ l. popped ≡ first_popped l.available) k.ring_whole.known first)
        where
          go : (popped ≡ Empty) ⊎ ((fault : Break) × (popped ≡ Broken fault)) → popped ≡ first_popped l.available → l.available ≡ []
          go (inl empty) is = take-empty l.available (sym empty ∙ is)
          go (inr broken) is = absurd (take-unbroken l.available broken.0 (sym broken.1 ∙ is))

      pub IsKept-none : ShowsPopped r → IsKept (record p { ring = r })
      IsKept-none shows = kept shows p.queued (k.count ∙ sym (ap (λ (l : ring.Lists). length l.available) (after-none l.popped l.used l.available is-empty)))

    -- this one is the first
    module _ (chain : ChainData) (first : IfSome p.ring.lists (λ l. Chain chain ≡ first_popped l.available)) where
      is-first : Chain chain ≡ first_popped l.available
      is-first = of-known p.ring.lists (λ l. Chain chain ≡ first_popped l.available) k.ring_whole.known first

      pub IsKept-taken : ShowsPopped r → IsKept (record p { ring = r; queued = p.queued - 1 })
      IsKept-taken shows = kept shows (p.queued - 1) (omega (arith, k.count, take-count l.popped l.used chain l.available is-first))

      pub request-taken : (asked : Reading) → IfSome r.lists (λ l. IfSome (popped_bytes chain.head l) (λ bytes. asked ≡ reading bytes chain.write))
          → Some (record { driver = (line_at p.submitted chain.head).driver; line = (line_at p.submitted chain.head).line; task = Reads asked }) ≡ option_map queued_call (slice_get (seen p).queue 0)
      request-taken asked says =
          let told = rw known at says in
          take-asks p.submitted p.rows.items l.popped l.used chain l.available asked is-first k.tied told
