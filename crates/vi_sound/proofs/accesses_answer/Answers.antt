use Rattle.vi_sound.proofs.Moves.Answered as answered
use Rattle.vi_sound.proofs.accesses_answer.Goals as goal

pub returns : goal.returns
returns c = answered.accesses_answer
