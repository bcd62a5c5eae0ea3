use Rattle.std.proofs.Common.{◌≡◌, drop}
use Rattle.vi_driver.specs.Drivers.{are_in_batch}
use Rattle.vi_driver.proofs.batch.are_in_batch.Given as goal

abbrev pub invariant-loop-line : goal.invariant-loop-line
invariant-loop-line l = are_in_batch l.lines l.submitted (drop l.line-index l.open_lines) ≡ are_in_batch l.lines l.submitted l.open_lines
