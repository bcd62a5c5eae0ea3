use Rattle.std.proofs.Common.{not, arith}
use Rattle.vi_bytes.specs.Leases.{share_page}
use Rattle.vi_cache.proofs.Separate.{IsCache-put}
use Rattle.vi_cache.proofs.Puts.{evicts-iff}
use Rattle.vi_cache.proofs.Lists.{length-filter-le}
use Rattle.vi_cache.proofs.cache.Cache.put.Goals as goal

pub make_room-evicted-requires-clause-within : goal.make_room-evicted-requires-clause-within
make_room-evicted-requires-clause-within c =
    let fewer = length-filter-le (λ l. not (share_page c.args.lease l)) c.self.inside.entries.items in
    rw c.drop_sharing.ensures (omega (arith, fewer, c.self.invariant.within_capacity))

pub invariant_of-self : goal.invariant_of-self
invariant_of-self c =
    rw (c.insert.ensures.items, c.make_room-evicted.ensures.rest, c.drop_sharing.ensures) (IsCache-put _ c.self.invariant c.args.lease c.requires)

pub returns-clause-evicts : goal.returns-clause-evicts
returns-clause-evicts c =
    rw (← c.self.view_is, c.make_room-evicted.ensures.answer, c.drop_sharing.ensures) (evicts-iff _ c.args.lease c.self.invariant)

pub returns-clause-cache : goal.returns-clause-cache
returns-clause-cache c = invariant_of-self c
