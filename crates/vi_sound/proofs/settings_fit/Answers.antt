use Rattle.vi_sound.proofs.Space.Room as laws
use Rattle.vi_sound.proofs.settings_fit.Goals as goal

pub returns : goal.returns
returns c = laws.settings_fit
