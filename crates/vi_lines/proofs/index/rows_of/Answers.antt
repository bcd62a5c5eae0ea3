use Rattle.vi_lines.proofs.IndexLemmas.{places_from_more}
use Rattle.vi_lines.proofs.index.rows_of.Goals as goal

pub loop-place-preserved : goal.loop-place-preserved
loop-place-preserved c = λ caller.
    places_from_more c.args.lines.now c.loop-place.place c.index-lines-place.result caller _ _ c.loop-place-test.true c.index-lines-place.is (c.loop-place.invariant caller) (c.in_ok-add_place.ensures caller)
