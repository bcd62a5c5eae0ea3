use Rattle.vi_sound.proofs.Space.Room as laws
use Rattle.vi_sound.proofs.misses_fit.Goals as goal

pub returns : goal.returns
returns c = laws.misses_fit
