use Rattle.vi_calls.proofs.Sequels.{at-once}
use Rattle.vi_calls.proofs.laws.answered_at_once.Goals as goal

pub returns : goal.returns
returns c = at-once
