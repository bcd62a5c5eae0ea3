use Rattle.vi_sound.proofs.Space.Room as laws
use Rattle.vi_sound.proofs.mappings_are_whole.Goals as goal

pub returns : goal.returns
returns c = laws.mappings_are_whole
