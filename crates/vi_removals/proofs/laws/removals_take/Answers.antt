use Rattle.vi_removals.proofs.Removes.{removes-takes}
use Rattle.vi_removals.proofs.laws.removals_take.Goals as goal

pub returns : goal.returns
returns c = removes-takes
