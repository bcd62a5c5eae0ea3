use Rattle.vi_removals.proofs.Ties.{AreOpened-seen}
use Rattle.vi_removals.proofs.removals.Removals.is_full.Goals as goal

pub returns-clause-open : goal.returns-clause-open
returns-clause-open c = rw (← c.self.view_is) (AreOpened-seen c.self.inside c.self.invariant)
