use Rattle.vi_iova.proofs.Multiples.{next_checked, none_checked}
use Rattle.vi_iova.proofs.walk.Wanted.above.Goals as goal

pub returns-clause-next : goal.returns-clause-next
returns-clause-next c = next_checked c.args.self.now.granule c.args.address c.checked_add.result c.requires c.checked_add.ensures

pub returns-clause-none : goal.returns-clause-none
returns-clause-none c = none_checked c.args.self.now.granule c.args.address c.checked_add.result c.requires c.checked_add.ensures
