use Rattle.vi_backend.proofs.Agreeing as agreeing
use Rattle.vi_backend.proofs.laws.accesses_agree.Goals as goal

pub returns : goal.returns
returns c = agreeing.accesses_agree
