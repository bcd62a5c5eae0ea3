use Rattle.std.proofs.Common.{arith}
use Rattle.vi_commands.proofs.JudgedLemmas.{lines_few}
use Rattle.vi_commands.proofs.judged.count_lines.Goals as goal

pub overflow_add-count : goal.overflow_add-count
overflow_add-count c = omega (arith, c.loop-lines.invariant, lines_few c.args.text.now, c.requires)
