use Rattle.std.proofs.Common.{arith}
use Rattle.vi_tree.specs.Trees.{shape_of}
use Rattle.vi_tree.proofs.TreeLemmas.{root_low, level_low}
use Rattle.vi_tree.proofs.tree.Tree.lowest.Goals as goal

pub lowest_meeting-requires-clause-counts : goal.lowest_meeting-requires-clause-counts
lowest_meeting-requires-clause-counts c =
    let low = root_low c.self.inside.nodes c.self.inside.root c.self.inside.spare (shape_of c.self.inside.nodes c.self.inside.root) c.self.invariant in
    let small = level_low c.self.inside.nodes c.self.inside.root c.self.inside.spare (shape_of c.self.inside.nodes c.self.inside.root) c.self.invariant in
    omega arith

pub returns-clause-counted : goal.returns-clause-counted
returns-clause-counted c =
    let low = root_low c.self.inside.nodes c.self.inside.root c.self.inside.spare (shape_of c.self.inside.nodes c.self.inside.root) c.self.invariant in
    let small = level_low c.self.inside.nodes c.self.inside.root c.self.inside.spare (shape_of c.self.inside.nodes c.self.inside.root) c.self.invariant in
    rw (← c.self.view_is) (omega arith)
