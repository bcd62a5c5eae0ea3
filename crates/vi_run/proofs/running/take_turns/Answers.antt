use Rattle.std.proofs.Common.{◌<◌, length, arith}
use Rattle.std.proofs.lemmas.List.{length-set}
use Rattle.vi_run.proofs.Keeping.{own_at, all_first, all_more}
use Rattle.vi_run.proofs.running.take_turns.Goals as goal
use Rattle.vi_run.proofs.running.take_turns.Goals.{then-at-chunk, else-at-chunk}

pub loop-turns-init : goal.loop-turns-init
loop-turns-init g c = let some = c.requires.some in record { same = all_first _ _ c.requires.own; some = some; at = omega arith; few = omega arith }

pub turns_in_a_row-taken-requires : goal.turns_in_a_row-taken-requires
turns_in_a_row-taken-requires g c =
    let within : c.if-at-chunk.at < length c.loop-turns.chunk = elim c.if-at-chunk.branch [ then-at-chunk w ↦ omega arith | else-at-chunk w ↦ omega arith ] in
    record { own = own_at _ _ _ _ _ c.loop-turns.invariant.same within }

pub loop-turns-preserved : goal.loop-turns-preserved
loop-turns-preserved g c =
    let within : c.if-at-chunk.at < length c.loop-turns.chunk = elim c.if-at-chunk.branch [ then-at-chunk w ↦ omega arith | else-at-chunk w ↦ omega arith ] in
    let taken = c.turns_in_a_row-taken.ensures.some in
    let few = c.loop-turns.invariant.few in
    let long = length-set c.loop-turns.chunk c.if-at-chunk.at c.turns_in_a_row-taken.new.actor in
    record {
      same = all_more _ _ _ _ c.index-chunk-at.result _ c.loop-turns.invariant.same within c.turns_in_a_row-taken.ensures.same;
      some = omega (arith, long);
      at = omega (arith, long);
      few = omega (arith, taken);
    }
