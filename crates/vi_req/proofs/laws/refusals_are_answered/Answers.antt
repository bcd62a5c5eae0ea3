use Rattle.vi_req.proofs.ReadingLemmas.{reading-RefusedAs}
use Rattle.vi_req.proofs.laws.refusals_are_answered.Goals as goal

pub returns : goal.returns
returns c = λ bytes write fault room is. reading-RefusedAs bytes write fault room is
