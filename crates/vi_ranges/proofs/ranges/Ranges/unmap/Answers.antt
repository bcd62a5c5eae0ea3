use Rattle.std.proofs.Common.{◌≡◌, ◌+◌, length, arith}
use Rattle.vi_bytes.specs.Mappings.{within_span}
use Rattle.vi_ranges.proofs.MappingLemmas.{AreApart-filter, length-within_without}
use Rattle.vi_ranges.proofs.ranges.Ranges.unmap.Goals as goal
use Rattle.vi_ranges.proofs.ranges.Ranges.unmap.Goals.{After-keep_outside}

both : (c : After-keep_outside) → length c.keep_outside.new.mappings.items + length (within_span c.args.span.now c.self.inside.mappings.items) ≡ length c.self.inside.mappings.items
both c = rw c.keep_outside.ensures.items (length-within_without c.args.span.now c.self.inside.mappings.items)

pub overflow_sub-removed : goal.overflow_sub-removed
overflow_sub-removed c = omega (arith, both (goal.at.overflow_sub-removed c).After-keep_outside)

pub invariant_of-self : goal.invariant_of-self
invariant_of-self c =
    let all = both (goal.at.invariant_of-self c).After-keep_outside in
    (rw c.keep_outside.ensures.items (AreApart-filter _ _ c.self.invariant.0), omega (arith, all), omega (arith, all))

pub returns-clause-number : goal.returns-clause-number
returns-clause-number c = rw (← c.self.view_is) (omega (arith, both (goal.at.returns-clause-number c).After-keep_outside))

pub returns-clause-apart : goal.returns-clause-apart
returns-clause-apart c = rw c.keep_outside.ensures.items (AreApart-filter _ _ c.self.invariant.0)

pub returns-clause-few : goal.returns-clause-few
returns-clause-few c = omega (arith, both (goal.at.returns-clause-few c).After-keep_outside)
