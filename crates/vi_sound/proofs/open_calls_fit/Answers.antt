use Rattle.vi_sound.proofs.Space.Room as laws
use Rattle.vi_sound.proofs.open_calls_fit.Goals as goal

pub returns : goal.returns
returns c = laws.open_calls_fit
