use Rattle.vi_order.proofs.Ordered as laws
use Rattle.vi_order.proofs.ordered_one_by_one.Goals as goal

pub returns : goal.returns
returns c = laws.ordered_one_by_one
