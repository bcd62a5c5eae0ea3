use Rattle.std.proofs.Common.{◌≡◌, ◌+◌, length}
use Rattle.vi_words.specs.Words.{lines_of_text}
use Rattle.vi_commands.proofs.judged.count_lines.Given as goal

abbrev pub invariant-loop-lines : goal.invariant-loop-lines
invariant-loop-lines l = l.count + length l.lines ≡ length (lines_of_text l.text)

abbrev pub decreases-loop-lines : goal.decreases-loop-lines
decreases-loop-lines l = length l.lines
