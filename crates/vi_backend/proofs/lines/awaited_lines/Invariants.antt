use Rattle.std.proofs.Common.{◌≡◌, false, fold, take, replicate}
use Rattle.vi_backend.proofs.Marking.{marked_by_line}
use Rattle.vi_backend.proofs.lines.awaited_lines.Given as goal

abbrev pub invariant-loop-line : goal.invariant-loop-line
invariant-loop-line l = l.awaited.items ≡ fold (marked_by_line l.caller) (replicate l.count false) (take l.line-index l.script.lines)
