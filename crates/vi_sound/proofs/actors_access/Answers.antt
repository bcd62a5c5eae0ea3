use Rattle.vi_sound.proofs.Values.Owns as laws
use Rattle.vi_sound.proofs.actors_access.Goals as goal

pub returns : goal.returns
returns c = laws.actors_access
