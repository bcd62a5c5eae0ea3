use Rattle.std.proofs.Common.{sym, ◌∙◌}
use Rattle.vi_core.proofs.DriverTurns.{collects_without_open}
use Rattle.vi_core.proofs.driving.collect.Goals as goal

pub returns-then-not-open : goal.returns-then-not-open
returns-then-not-open c = collects_without_open c.args.control.now c.args.driver.now (sym c.open.ensures ∙ c.if-not-open.true) c.requires.answered
