use Rattle.std.proofs.Common.{◌≡◌, drop}
use Rattle.vi_model.specs.Drivers.{finished_first}
use Rattle.vi_driver.proofs.driver.finished_first.Given as goal

abbrev pub invariant-loop-line : goal.invariant-loop-line
invariant-loop-line l = finished_first (drop l.line-index l.open_lines) l.finished ≡ finished_first l.open_lines l.submitted
