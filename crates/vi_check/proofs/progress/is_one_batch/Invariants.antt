use Rattle.std.proofs.Common.{◌≡◌}
use Rattle.vi_lines.specs.Order.{batch_of}
use Rattle.vi_check.proofs.progress.is_one_batch.Given as goal

abbrev pub invariant-loop-line : goal.invariant-loop-line
invariant-loop-line l = batch_of l.script l.caller l.line ≡ batch_of l.script l.caller l.first
