use Rattle.vi_iova.proofs.Walking.{walked-live, walked-region, walked-live_end, walked-region_end, walked-found}
use Rattle.vi_iova.proofs.walk.lowest_clear.Goals as goal

pub returns-in_err-first : goal.returns-in_err-first
returns-in_err-first c =
    rw c.from_residual-in_err-first.ensures (walked-live_end c.args.wanted.now c.args.live.now c.args.kept_off.now c.args.from c.loop-span.ahead.now c.in-Some.rest.now c.loop-span.regions.now c.loop-span.first c.in_ok-span.span c.in-Some.taken
    c.loop-span.invariant c.in_ok-span.ensures.span c.in-Some.ensures.front c.in-Some.ensures.begins c.span_from.ensures.fits c.in_err-first.ensures.none)

pub loop-span-preserved-in-Some : goal.loop-span-preserved-in-Some
loop-span-preserved-in-Some c =
    walked-live c.args.wanted.now c.args.live.now c.args.kept_off.now c.args.from c.loop-span.ahead.now c.in-Some.rest.now c.loop-span.regions.now c.loop-span.first c.in_ok-first.first c.in_ok-span.span c.in-Some.taken
    c.loop-span.invariant c.in_ok-span.ensures.span c.in-Some.ensures.front c.in-Some.ensures.begins c.in_ok-first.ensures.next

pub returns-in_err-first-2 : goal.returns-in_err-first-2
returns-in_err-first-2 c =
    rw c.from_residual-in_err-first-2.ensures (walked-region_end c.args.wanted.now c.args.live.now c.args.kept_off.now c.args.from c.loop-span.ahead.now c.loop-span.regions.now c.in-Some-front_by.rest.now c.loop-span.first c.in_ok-span.span c.in-Some-front_by.taken
    c.loop-span.invariant c.in_ok-span.ensures.span c.in-Some-front_by.ensures.front c.in-Some-front_by.ensures.begins c.span_from.ensures.fits c.in_err-first-2.ensures.none)

pub loop-span-preserved : goal.loop-span-preserved
loop-span-preserved c =
    walked-region c.args.wanted.now c.args.live.now c.args.kept_off.now c.args.from c.loop-span.ahead.now c.loop-span.regions.now c.in-Some-front_by.rest.now c.loop-span.first c.in_ok-first-2.first c.in_ok-span.span c.in-Some-front_by.taken
    c.loop-span.invariant c.in_ok-span.ensures.span c.in-Some-front_by.ensures.front c.in-Some-front_by.ensures.begins c.in_ok-first-2.ensures.next

pub returns-in_default-front_by : goal.returns-in_default-front_by
returns-in_default-front_by c =
    walked-found c.args.wanted.now c.args.live.now c.args.kept_off.now c.args.from c.loop-span.ahead.now c.loop-span.regions.now c.loop-span.first c.in_ok-span.span
    c.loop-span.invariant c.in_ok-span.ensures.span c.in_ok-span.ensures.ends c.in_default.ensures.none c.in_default-front_by.ensures.none
