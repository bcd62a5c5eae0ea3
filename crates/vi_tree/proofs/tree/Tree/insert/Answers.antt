use Rattle.std.proofs.Common.{◌-◌, length, arith}
use Rattle.vi_tree.proofs.LevelLemmas.{insert-bound, level-small}
use Rattle.vi_tree.proofs.tree.Tree.insert.Goals as goal

pub link-requires-clause-counts : goal.link-requires-clause-counts
link-requires-clause-counts c =
    let few = c.lowest.ensures.few in
    let small = level-small (length c.args.self.now.mappings) (omega arith) in
    omega (arith, c.lowest.ensures.counted)

pub returns-in-Some-clause-bound : goal.returns-in-Some-clause-bound
returns-in-Some-clause-bound c = insert-bound (length c.args.self.now.mappings) (c.lowest.new.steps - c.args.steps.now) (omega (arith, c.lowest.ensures.counted))

pub returns-in-None-clause-bound : goal.returns-in-None-clause-bound
returns-in-None-clause-bound c = insert-bound (length c.args.self.now.mappings) (c.link.new.steps - c.args.steps.now) (omega (arith, c.lowest.ensures.counted, c.link.ensures.counted))
