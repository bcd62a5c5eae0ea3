use Rattle.std.proofs.Common.{sym, ◌∙◌}
use Rattle.vi_control.proofs.Acking.{none_taken}
use Rattle.vi_control.proofs.acks.take_back.Goals as goal

pub returns-else-meets-clause-taken : goal.returns-else-meets-clause-taken
returns-else-meets-clause-taken c = none_taken c.args.span.now c.args.grants.now c.args.place (sym c.meets.ensures.meets ∙ c.if-meets.false)
