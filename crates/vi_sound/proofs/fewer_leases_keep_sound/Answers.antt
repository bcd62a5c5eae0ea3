use Rattle.vi_sound.proofs.Laws as laws
use Rattle.vi_sound.proofs.fewer_leases_keep_sound.Goals as goal

pub returns : goal.returns
returns c = laws.fewer_leases_keep_sound
