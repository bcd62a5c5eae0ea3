use Rattle.vi_sound.proofs.Space.Room as laws
use Rattle.vi_sound.proofs.calls_fit.Goals as goal

pub returns : goal.returns
returns c = laws.calls_fit
