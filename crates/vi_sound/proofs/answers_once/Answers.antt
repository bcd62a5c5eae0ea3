use Rattle.vi_sound.proofs.Space.Room as laws
use Rattle.vi_sound.proofs.answers_once.Goals as goal

pub returns : goal.returns
returns c = laws.answers_once
