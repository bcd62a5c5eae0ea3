use Rattle.vi_core.specs.Inner.{parts_of}
use Rattle.vi_core.proofs.Well.{kept_well, answered_at_once}
use Rattle.vi_core.proofs.world.World.keeps.Goals as goal

pub returns-clause-well : goal.returns-clause-well
returns-clause-well c = rw (← c.self.view_is) (kept_well (parts_of c.self.inside) c.self.invariant)

pub returns-clause-at_once : goal.returns-clause-at_once
returns-clause-at_once c = rw (← c.self.view_is) (answered_at_once (parts_of c.self.inside))
