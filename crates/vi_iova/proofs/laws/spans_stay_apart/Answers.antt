use Rattle.vi_iova.proofs.Apart.{stay_apart}
use Rattle.vi_iova.proofs.laws.spans_stay_apart.Goals as goal

pub returns : goal.returns
returns c = stay_apart
