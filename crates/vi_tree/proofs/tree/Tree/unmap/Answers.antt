use Rattle.std.proofs.Common.{◌+◌, ◌*◌, length, sym, ◌∙◌, arith}
use Rattle.vi_tree.specs.Trees.{level}
use Rattle.vi_tree.proofs.LevelLemmas.{level-small, unmap-bound}
use Rattle.vi_tree.proofs.UnmapLemmas.{steps_all}
use Rattle.vi_tree.proofs.tree.Tree.unmap.Goals as goal

pub remove_within-requires-clause-uncut : goal.remove_within-requires-clause-uncut
remove_within-requires-clause-uncut c = sym c.lowest_cut.ensures.found ∙ c.in-None.is

pub remove_within-requires-clause-counts : goal.remove_within-requires-clause-counts
remove_within-requires-clause-counts c =
    let few = c.lowest_cut.ensures.few in
    let small = level-small (length c.args.self.now.mappings) (omega arith) in
    omega (arith, c.lowest_cut.ensures.counted)

pub returns-in-Some-clause-bound : goal.returns-in-Some-clause-bound
returns-in-Some-clause-bound c =
    let n = (length c.args.self.now.mappings) in
    let steps = steps_all c.args.steps.now c.lowest_cut.new.steps c.lowest_cut.new.steps 0 (level n) c.lowest_cut.ensures.counted (omega arith) in
    (8 * level n + 1, steps, unmap-bound n)

pub returns-in-None-clause-bound : goal.returns-in-None-clause-bound
returns-in-None-clause-bound c =
    let n = (length c.args.self.now.mappings) in
    let steps = steps_all c.args.steps.now c.lowest_cut.new.steps c.remove_within.new.steps c.remove_within.result (level n) c.lowest_cut.ensures.counted c.remove_within.ensures.counted in
    (8 * level n + 1, steps, unmap-bound n)
