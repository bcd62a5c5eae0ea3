use Rattle.std.proofs.Common.{◌≡◌, ◌+◌, ◌-◌, ◌≤◌, ◌∙◌, arith}
use Rattle.vi_driver.proofs.Batches.{added_between}
use Rattle.vi_driver.proofs.batch.is_in_batch.Goals as goal

pub returns : goal.returns
returns c =
    let le : c.args.line - 1 ≤ c.args.submitted = omega (arith, c.requires.line.last) in
    let before : c.args.submitted + 1 - 1 ≡ c.args.submitted = omega arith in
    rw before (c.are_added.ensures ∙ added_between c.args.lines.now (c.args.line - 1) c.args.submitted le)
