-- What a back end takes from its lanes.
use Rattle.std.proofs.Common.{ℕ, ◌+◌, List, [], ◌∷◌, ◌++◌, Option, arith, ◌∙◌, sym, append_assoc, length-append}
use Rattle.vi_bytes.specs.declared.span.Span.{Span}
use Rattle.vi_bytes.specs.declared.lease.Lease.{Lease}
use Rattle.vi_history.specs.Device.{Dev}
use Rattle.vi_model.specs.Lanes.{Down, Update, Invalidate, sent_reaches}
use Rattle.vi_grants.specs.declared.row.Grant.{Grant}
use Rattle.vi_model.specs.Caches.{apart, untouched, put}
use Rattle.vi_model.specs.Removals.{Removal}
use Rattle.vi_model.specs.Links.{UpdatesAreClear, AreClearOf, IsLinked}
use Rattle.vi_sound.proofs.Values.Leases.{untouched_among, apart_among, take_among, untouched_clear, clear_untouched, clear_apart, clear_take}

acks_invalidate : (s : Option Span) (gone : List (Option Span)) (cache : List Lease) (fs : List Down) → AreClearOf gone cache (Invalidate s ∷ fs) → UpdatesAreClear s fs → AreClearOf (gone ++ s ∷ []) (untouched s cache) fs
acks_invalidate s [] cache fs c b = ((untouched_clear s cache, b), tt)
acks_invalidate s (t ∷ gone) cache fs c b = ((clear_untouched t s cache c.0.0, c.0.1), acks_invalidate s gone cache fs c.1 b)

-- an Invalidate drops its reach, and an Ack is sent
pub take_invalidate : (dev : Dev) (ops : List Removal) (e k : ℕ) (g : List Grant) (cache : List Lease) (s : Option Span) (fs : List Down) (acks : ℕ)
    → IsLinked dev ops e k g cache (Invalidate s ∷ fs) acks → IsLinked dev ops e k g (untouched s cache) fs (acks + 1)
take_invalidate dev ops e k g cache s fs acks ok = record {
  distinct = ok.distinct;
  asked = ok.asked;
  cached = untouched_among s g cache ok.cached;
  updates = ok.updates;
  current = ok.current;
  wait = ok.wait;
  gone = ok.gone ++ s ∷ [];
  count = omega (arith, length-append ok.gone (s ∷ []), ok.count);
  order = ok.order ∙ sym (append_assoc ok.gone (s ∷ []) (sent_reaches fs));
  clear = acks_invalidate s ok.gone cache fs ok.clear ok.behind.0;
  behind = ok.behind.1;
}

acks_update : (n : ℕ) (l : Lease) (gone : List (Option Span)) (cache : List Lease) (fs : List Down) → AreClearOf gone cache (Update l ∷ fs) → AreClearOf gone (put n l cache) fs
acks_update n l [] cache fs c = tt
acks_update n l (t ∷ gone) cache fs c = ((clear_take t n (l ∷ apart l cache) (c.0.1.0, clear_apart t l cache c.0.0), c.0.1.1), acks_update n l gone cache fs c.1)

-- an Update puts the lease into the cache
pub take_update : (n : ℕ) (dev : Dev) (ops : List Removal) (e k : ℕ) (g : List Grant) (cache : List Lease) (l : Lease) (fs : List Down) (acks : ℕ)
    → IsLinked dev ops e k g cache (Update l ∷ fs) acks → IsLinked dev ops e k g (put n l cache) fs acks
take_update n dev ops e k g cache l fs acks ok = record {
  distinct = ok.distinct;
  asked = ok.asked;
  cached = take_among n g (l ∷ apart l cache) (ok.updates.0, apart_among l g cache ok.cached);
  updates = ok.updates.1;
  current = ok.current;
  wait = ok.wait;
  gone = ok.gone;
  count = ok.count;
  order = ok.order;
  clear = acks_update n l ok.gone cache fs ok.clear;
  behind = ok.behind;
}
