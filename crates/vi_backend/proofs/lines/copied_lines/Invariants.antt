use Rattle.std.proofs.Common.{◌≡◌, take}
use Rattle.vi_lines.specs.Calls.{lines_of}
use Rattle.vi_backend.proofs.lines.copied_lines.Given as goal

abbrev pub invariant-loop-before : goal.invariant-loop-before
invariant-loop-before l = l.lines.items ≡ take l.before (lines_of l.script l.caller)
