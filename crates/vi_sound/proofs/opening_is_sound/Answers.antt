use Rattle.vi_sound.proofs.Laws as laws
use Rattle.vi_sound.proofs.opening_is_sound.Goals as goal

pub returns : goal.returns
returns c = laws.opening_is_sound
