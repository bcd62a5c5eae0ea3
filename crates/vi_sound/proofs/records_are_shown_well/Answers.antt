use Rattle.vi_sound.proofs.Moves.Delivered as laws
use Rattle.vi_sound.proofs.records_are_shown_well.Goals as goal

pub returns : goal.returns
returns c = laws.records_are_shown_well
