use Rattle.std.proofs.Common.{◌<◌, length, arith}
use Rattle.std.proofs.lemmas.List.{get_or_default}
use Rattle.std.proofs.lemmas.List.Edits.{map_over_more}
use Rattle.vi_check.specs.Seen.{moved_if}
use Rattle.vi_check.proofs.progress.move_to.Goals as goal

pub loop-back-preserved : goal.loop-back-preserved
loop-back-preserved c =
    let xs = c.deref_mut-back-items.result.now in
    let within : c.loop-back.back-index < length xs = omega arith in
    rw (c.move_if.ensures) (map_over_more (moved_if c.args.next) xs c.loop-back.back-items c.loop-back.back-index _ within c.loop-back.invariant (get_or_default c.loop-back.back-items c.loop-back.back-index _ _ (omega arith)))
