use Rattle.std.proofs.Common.{◌*◌, arith}
use Rattle.tests_lists.proofs.space.two.Goals as goal

pub alloc-requires-clause-whole : goal.alloc-requires-clause-whole
alloc-requires-clause-whole c = (2, omega (arith, c.from.ensures, c.requires.granule))
