use Rattle.vi_core.proofs.ConverseRoom.{converse_room}
use Rattle.vi_core.proofs.laws.converses_fit.Goals as goal

pub returns : goal.returns
returns c = converse_room
