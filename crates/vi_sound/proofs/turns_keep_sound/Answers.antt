use Rattle.vi_sound.proofs.Laws as laws
use Rattle.vi_sound.proofs.turns_keep_sound.Goals as goal

pub returns : goal.returns
returns c = laws.turns_keep_sound
