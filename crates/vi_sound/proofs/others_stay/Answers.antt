use Rattle.vi_sound.proofs.Laws as laws
use Rattle.vi_sound.proofs.others_stay.Goals as goal

pub returns : goal.returns
returns c = laws.others_stay
