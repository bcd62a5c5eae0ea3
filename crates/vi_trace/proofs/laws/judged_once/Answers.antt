use Rattle.vi_trace.proofs.Once.{judged_one}
use Rattle.vi_trace.proofs.laws.judged_once.Goals as goal

pub returns : goal.returns
returns c = judged_one
