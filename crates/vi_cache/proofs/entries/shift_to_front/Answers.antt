use Rattle.std.proofs.Common.{◌<◌, ◌≡◌, length, arith, add-one}
use Rattle.std.proofs.lemmas.Option.{slice_get-get_or}
use Rattle.vi_cache.proofs.Lists.{shifted-suc, get_or-shifted}
use Rattle.vi_cache.proofs.entries.shift_to_front.Goals as goal

pub loop-place-preserved : goal.loop-place-preserved
loop-place-preserved c =
    let below : c.loop-place.place < length c.args.entries.now = omega arith in
    record {
      entries = rw (c.loop-place.invariant.carried, c.loop-place.invariant.entries, add-one) (shifted-suc _ c.args.entries.now c.loop-place.place _ below);
      carried = rw (c.loop-place.invariant.entries, add-one) (get_or-shifted _ c.args.entries.now c.loop-place.place _ _ below);
    }

pub returns-clause-answer : goal.returns-clause-answer
returns-clause-answer c = slice_get-get_or c.args.entries.now c.args.at _ c.requires

pub returns-clause-order : goal.returns-clause-order
returns-clause-order c =
    let here : c.loop-place.place ≡ c.args.at = omega (arith, c.loop-place.auto.place-end) in
    rw (c.loop-place.invariant.carried, c.loop-place.invariant.entries, here) (shifted-suc _ c.args.entries.now c.args.at _ c.requires)
