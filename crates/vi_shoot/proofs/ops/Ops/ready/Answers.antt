use Rattle.vi_shoot.proofs.Oldest.{none-first, closable-if_first}
use Rattle.vi_shoot.proofs.ops.Ops.ready.Goals as goal

pub returns-clause-none : goal.returns-clause-none
returns-clause-none c = rw c.first_ready.ensures (none-first c.args.self.now)

pub returns-clause-closable : goal.returns-clause-closable
returns-clause-closable c = closable-if_first c.args.self.now c.first_ready.result c.first_ready.ensures
