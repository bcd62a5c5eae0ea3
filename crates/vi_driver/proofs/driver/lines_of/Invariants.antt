use Rattle.std.proofs.Common.{◌≡◌, take}
use Rattle.std.specs.List.{filter}
use Rattle.vi_lines.specs.Calls.{same_caller}
use Rattle.vi_driver.proofs.driver.lines_of.Given as goal

abbrev pub invariant-loop-line : goal.invariant-loop-line
invariant-loop-line l = l.own.items ≡ filter (λ x. same_caller x.caller l.caller) (take l.line-index l.script.lines)
