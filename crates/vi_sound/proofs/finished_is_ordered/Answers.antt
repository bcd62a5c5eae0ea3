use Rattle.vi_sound.proofs.Falling.Ended as laws
use Rattle.vi_sound.proofs.finished_is_ordered.Goals as goal

pub returns : goal.returns
returns c = laws.finished_is_ordered
