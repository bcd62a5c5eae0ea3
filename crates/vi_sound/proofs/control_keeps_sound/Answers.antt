use Rattle.vi_sound.proofs.Laws as laws
use Rattle.vi_sound.proofs.control_keeps_sound.Goals as goal

pub returns : goal.returns
returns c = laws.control_keeps_sound
