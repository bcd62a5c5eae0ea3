use Rattle.vi_sound.proofs.Falling.Lowers as laws
use Rattle.vi_sound.proofs.moves_lower.Goals as goal

pub returns : goal.returns
returns c = laws.moves_lower
