use Rattle.vi_sound.proofs.Playable as laws
use Rattle.vi_sound.proofs.valid_is_playable.Goals as goal

pub returns : goal.returns
returns c = laws.valid_is_playable
