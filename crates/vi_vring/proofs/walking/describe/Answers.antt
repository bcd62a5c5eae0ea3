use Rattle.std.proofs.Common.{sym, ◌∙◌}
use Rattle.vi_vring.proofs.walking.describe.Goals as goal

pub returns-clause-fits : goal.returns-clause-fits
returns-clause-fits c = sym c.passes_memory.ensures ∙ c.if-passes_memory.false
