use Rattle.vi_sound.proofs.Falling.Ended as laws
use Rattle.vi_sound.proofs.only_moved_changes.Goals as goal

pub returns : goal.returns
returns c = laws.only_moved_changes
