use Rattle.std.proofs.Common.{length}
use Rattle.vi_commands.proofs.JudgedLemmas.{IsCutSoFar}
use Rattle.vi_commands.proofs.judged.cut.Given as goal

abbrev pub invariant-loop-line : goal.invariant-loop-line
invariant-loop-line l = IsCutSoFar l.input l.at l.lines

abbrev pub decreases-loop-line : goal.decreases-loop-line
decreases-loop-line l = length l.lines
