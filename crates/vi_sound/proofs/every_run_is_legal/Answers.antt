use Rattle.vi_sound.proofs.Laws as laws
use Rattle.vi_sound.proofs.every_run_is_legal.Goals as goal

pub returns : goal.returns
returns c = laws.every_run_is_legal
