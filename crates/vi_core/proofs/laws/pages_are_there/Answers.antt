use Rattle.vi_sound.proofs.Space.PageRoom.{page_room}
use Rattle.vi_core.proofs.laws.pages_are_there.Goals as goal

pub returns : goal.returns
returns c = page_room
