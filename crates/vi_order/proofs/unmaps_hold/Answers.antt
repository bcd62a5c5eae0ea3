use Rattle.vi_order.proofs.Unmapped as laws
use Rattle.vi_order.proofs.unmaps_hold.Goals as goal

pub returns : goal.returns
returns c = laws.unmaps_hold
