use Rattle.std.proofs.Common.{◌-◌, length, arith}
use Rattle.vi_tree.proofs.LevelLemmas.{find-bound}
use Rattle.vi_tree.proofs.tree.Tree.find.Goals as goal

pub returns-clause-bound : goal.returns-clause-bound
returns-clause-bound c = find-bound (length c.args.self.now.mappings) (c.lowest.new.steps - c.args.steps.now) (omega (arith, c.lowest.ensures.counted))
