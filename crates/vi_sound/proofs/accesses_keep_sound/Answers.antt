use Rattle.vi_sound.proofs.Laws as laws
use Rattle.vi_sound.proofs.accesses_keep_sound.Goals as goal

pub returns : goal.returns
returns c = laws.accesses_keep_sound
