use Rattle.std.proofs.Common.{arith, not, refl}
use Rattle.std.proofs.lemmas.List.Sums.{length-filter}
use Rattle.std.proofs.lemmas.List.Filters.{length-filter_both}
use Rattle.vi_bytes.specs.Leases.{reaches_into}
use Rattle.vi_cache.proofs.Separate.{IsCache-filter}
use Rattle.vi_cache.proofs.Lists.{length-filter-le}
use Rattle.vi_cache.proofs.cache.Cache.drop_span.Goals as goal

pub overflow_sub-result : goal.overflow_sub-result
overflow_sub-result c =
    let span = c.args.span.now in
    let fewer = length-filter-le (λ l. not (reaches_into l span)) c.self.inside.entries.items in
    rw (c.len.ensures.value, c.len-had.ensures.value, c.drop_meeting.ensures) fewer

pub invariant_of-self : goal.invariant_of-self
invariant_of-self c = rw c.drop_meeting.ensures (IsCache-filter _ c.self.invariant (λ l. not (reaches_into l c.args.span.now)))

pub returns-clause-answer : goal.returns-clause-answer
returns-clause-answer c =
    let span = c.args.span.now in
    let items = c.self.inside.entries.items in
    rw (← c.self.view_is, c.len.ensures.value, c.len-had.ensures.value, c.drop_meeting.ensures)
    (omega (arith, length-filter_both (λ l. reaches_into l span) (λ l. not (reaches_into l span)) (λ _. refl) items, length-filter (λ l. reaches_into l span) items))

pub returns-clause-cache : goal.returns-clause-cache
returns-clause-cache c = invariant_of-self c
