use Rattle.vi_core.proofs.OpenedWorld.{opened_kept, opened_running}
use Rattle.vi_core.proofs.world.World.build.Goals as goal

pub invariant_of-result : goal.invariant_of-result
invariant_of-result c = opened_kept _ c.requires c.in_ok-pages.ensures

pub returns : goal.returns
returns c = opened_running _ c.in_ok-pages.ensures
