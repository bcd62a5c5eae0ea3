use Rattle.vi_backend.proofs.Agreeing as agreeing
use Rattle.vi_backend.proofs.laws.replies_agree.Goals as goal

pub returns : goal.returns
returns c = agreeing.replies_agree
