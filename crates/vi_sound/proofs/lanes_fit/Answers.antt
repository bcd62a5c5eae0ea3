use Rattle.vi_sound.proofs.Space.Room as laws
use Rattle.vi_sound.proofs.lanes_fit.Goals as goal

pub returns : goal.returns
returns c = laws.lanes_fit
