use Rattle.vi_sound.proofs.Space.Room as laws
use Rattle.vi_sound.proofs.history_fits.Goals as goal

pub returns : goal.returns
returns c = laws.history_fits
