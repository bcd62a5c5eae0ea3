use Rattle.vi_control.proofs.Effects.{reading-keeps}
use Rattle.vi_control.proofs.answers.configure.Goals as goal

pub returns-in-Reads : goal.returns-in-Reads
returns-in-Reads c = λ dev e. rw (c.in-Reads.is, (reading-keeps dev c.in-Reads.field-0).config) e
