use Rattle.std.proofs.Common.{◌≡◌, ◌-◌, ◌<◌, suc, true, not, length, sym, ◌∙◌, refl, arith}
use Rattle.vi_grants.specs.Rows.{is_met}
use Rattle.vi_grants.proofs.Finds.{filter-step}
use Rattle.vi_grants.proofs.row.leave_unmet.Goals as goal

pub loop-at-preserved : goal.loop-at-preserved
loop-at-preserved c =
    let at = c.loop-at.at in
    let xs = c.args.grants.now.items in
    let place : at ≡ suc (at - 1) = omega arith in
    let below : at - 1 < length xs = omega (arith, c.loop-at.invariant.within) in
    let passes : not (is_met c.args.span.now c.index.result.now) ≡ true = rw (sym c.meets.ensures.test ∙ c.if-meets.false) refl in
    record {
      within = omega (arith, c.loop-at.invariant.within);
      items = filter-step (λ g. not (is_met c.args.span.now g)) xs c.loop-at.grants.items at (at - 1) c.index.result.now place below c.loop-at.invariant.items c.index.ensures passes;
      fewer = c.loop-at.invariant.fewer;
      capacity = c.loop-at.invariant.capacity;
    }
