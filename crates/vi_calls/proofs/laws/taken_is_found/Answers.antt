use Rattle.vi_calls.proofs.Sequels.{found-again}
use Rattle.vi_calls.proofs.laws.taken_is_found.Goals as goal

pub returns : goal.returns
returns c = found-again
