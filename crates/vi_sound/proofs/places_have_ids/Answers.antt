use Rattle.vi_sound.proofs.Values.Owns as laws
use Rattle.vi_sound.proofs.places_have_ids.Goals as goal

pub returns : goal.returns
returns c = laws.places_have_ids
