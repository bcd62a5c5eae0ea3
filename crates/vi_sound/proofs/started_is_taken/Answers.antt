use Rattle.vi_sound.proofs.Moves.Taken as laws
use Rattle.vi_sound.proofs.started_is_taken.Goals as goal

pub returns : goal.returns
returns c = laws.started_is_taken
