use Rattle.std.proofs.Common.{◌+◌, drop, sym, ap, ◌∙◌}
use Rattle.std.proofs.lemmas.List.{at_drop_more}
use Rattle.vi_model.specs.Drivers.{finished_first}
use Rattle.vi_driver.proofs.Finished.{finished_less}
use Rattle.vi_driver.proofs.driver.finished_first.Goals as goal

pub loop-line-preserved : goal.loop-line-preserved
loop-line-preserved c =
    let rest = drop (c.loop-line.line-index + 1) c.args.open_lines.now in
    let here = at_drop_more (λ xs. finished_first xs c.loop-line.finished) c.args.open_lines.now c.loop-line.line-index 0 c.loop-line-test.true in
    ap (finished_first rest) c.min-finished.ensures ∙ (finished_less rest _ _ ∙ (sym here ∙ c.loop-line.invariant))
