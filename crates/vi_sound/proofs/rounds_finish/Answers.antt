use Rattle.vi_sound.proofs.Falling.Finishes as laws
use Rattle.vi_sound.proofs.rounds_finish.Goals as goal

pub returns : goal.returns
returns c = laws.rounds_are_enough
