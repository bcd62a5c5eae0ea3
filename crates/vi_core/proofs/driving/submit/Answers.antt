use Rattle.vi_driver.specs.Drivers.{next_parcel}
use Rattle.vi_core.proofs.DriverTurns.{submits}
use Rattle.vi_core.proofs.driving.submit.Goals as goal

pub returns : goal.returns
returns c = submits (next_parcel c.args.driver.now) c.args.control.now c.leave.new.control c.args.driver.now c.submitted.new.self c.leave.ensures c.submitted.ensures
