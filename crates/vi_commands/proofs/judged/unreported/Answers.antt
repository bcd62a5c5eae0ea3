use Rattle.std.proofs.Common.{length, refl, ap, ◌∙◌, arith}
use Rattle.vi_words.specs.Words.{lines_of_text}
use Rattle.vi_commands.proofs.JudgedLemmas.{lines_few}
use Rattle.vi_commands.specs.Judged.{without_report}
use Rattle.vi_commands.proofs.judged.unreported.Goals as goal

pub overflow_add-result : goal.overflow_add-result
overflow_add-result c = omega (arith, c.count_lines.ensures, lines_few c.args.input.now, c.requires)

pub returns-clause-read : goal.returns-clause-read
returns-clause-read c = ap (without_report (length (lines_of_text c.args.input.now))) c.in_ok-parse.ensures.read ∙ rw c.count_lines.ensures refl
