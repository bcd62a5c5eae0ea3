use Rattle.std.proofs.Common.{rules}
use Rattle.vi_check.specs.Texts.{verdict_text}
use Rattle.vi_check.proofs.verdict.Verdict.text.Goals as goal

pub returns : goal.returns
unfolding verdict_text
returns c = search rules
