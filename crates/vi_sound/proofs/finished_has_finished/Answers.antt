use Rattle.vi_sound.proofs.Falling.Tested as laws
use Rattle.vi_sound.proofs.finished_has_finished.Goals as goal

pub returns : goal.returns
returns c = laws.finished_has_finished
