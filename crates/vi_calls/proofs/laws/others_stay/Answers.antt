use Rattle.vi_calls.proofs.Sequels.{others-stay}
use Rattle.vi_calls.proofs.laws.others_stay.Goals as goal

pub returns : goal.returns
returns c = others-stay
