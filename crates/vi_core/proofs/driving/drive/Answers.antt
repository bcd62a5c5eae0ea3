use Rattle.vi_core.proofs.DriverTurns.{drives_collected}
use Rattle.vi_core.proofs.driving.drive.Goals as goal

pub returns-then-collect-clause-turn : goal.returns-then-collect-clause-turn
returns-then-collect-clause-turn c = drives_collected c.args.control.now c.collect.new.control c.args.driver.now c.collect.new.driver (rw c.if-collect.true at c.collect.ensures)
