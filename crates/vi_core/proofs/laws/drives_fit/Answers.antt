use Rattle.vi_core.proofs.DriveRoom.{drive_room}
use Rattle.vi_core.proofs.laws.drives_fit.Goals as goal

pub returns : goal.returns
returns c = drive_room
