use Rattle.vi_sound.proofs.Space.Room as laws
use Rattle.vi_sound.proofs.acks_are_awaited.Goals as goal

pub returns : goal.returns
returns c = laws.acks_are_awaited
