use Rattle.std.proofs.Common.{arith, sym, ◌∙◌}
use Rattle.vi_check.proofs.BatchLemmas.{other_batch, one_batch}
use Rattle.vi_check.proofs.progress.is_one_batch.Goals as goal

pub returns-then-ends_batch : goal.returns-then-ends_batch
returns-then-ends_batch c =
    other_batch c.args.script.now c.args.caller c.args.first c.loop-line.line c.args.second (omega arith) (omega arith) c.requires.ends
    c.loop-line.invariant (sym c.ends_batch.ensures ∙ c.if-ends_batch.true)

pub loop-line-preserved : goal.loop-line-preserved
loop-line-preserved c =
    one_batch c.args.script.now c.args.caller c.args.first c.loop-line.line (omega arith) (omega arith)
    c.loop-line.invariant (sym c.ends_batch.ensures ∙ c.if-ends_batch.false)
