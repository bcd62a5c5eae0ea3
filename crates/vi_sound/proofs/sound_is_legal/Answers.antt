use Rattle.vi_sound.proofs.Laws as laws
use Rattle.vi_sound.proofs.sound_is_legal.Goals as goal

pub returns : goal.returns
returns c = laws.sound_is_legal
