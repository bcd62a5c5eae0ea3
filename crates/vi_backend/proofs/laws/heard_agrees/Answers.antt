use Rattle.vi_backend.proofs.Agreeing as agreeing
use Rattle.vi_backend.proofs.laws.heard_agrees.Goals as goal

pub returns : goal.returns
returns c = agreeing.heard_agrees
