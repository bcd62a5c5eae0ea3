use Rattle.std.proofs.Common.{refl}
use Rattle.vi_cache.proofs.Separate.{IsCache-moved, looked-moved}
use Rattle.vi_cache.proofs.cache.Cache.look.Goals as goal

pub invariant_of-self : goal.invariant_of-self
invariant_of-self c =
    let below = rw c.as_slice.ensures.value at c.in_ok-at.ensures.within in
    rw c.move_to_front.ensures.order (IsCache-moved _ c.self.invariant c.in_ok-at.at c.move_to_front.result c.move_to_front.ensures.answer below)

pub returns-clause-order : goal.returns-clause-order
returns-clause-order c =
    let found = rw c.as_slice.ensures.value at c.in_ok-at.ensures.found in
    let moved = looked-moved _ c.self.invariant c.in_ok-at.at c.move_to_front.result c.args.page c.move_to_front.ensures.answer found in
    rw (← c.self.view_is, moved, c.move_to_front.ensures.order) refl

pub returns-clause-cache : goal.returns-clause-cache
returns-clause-cache c = invariant_of-self c
