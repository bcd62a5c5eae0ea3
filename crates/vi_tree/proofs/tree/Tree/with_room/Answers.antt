use Rattle.std.proofs.Common.{None, ap, arith}
use Rattle.vi_tree.specs.Shapes.{Leaf, inorder}
use Rattle.vi_tree.proofs.TreeLemmas.{IsTree-empty, IsTree-own, shape_of-holds}
use Rattle.vi_tree.proofs.tree.Tree.with_room.Goals as goal

pub invariant_of-result : goal.invariant_of-result
invariant_of-result c = IsTree-own _ None c.args.n Leaf (IsTree-empty _ c.args.n c.in_ok-with_room.ensures.empty c.in_ok-with_room.ensures.room (omega arith))

pub returns-clause-empty : goal.returns-clause-empty
returns-clause-empty c = ap inorder (shape_of-holds _ None Leaf (IsTree-empty _ c.args.n c.in_ok-with_room.ensures.empty c.in_ok-with_room.ensures.room (omega arith)).holds)

pub returns-clause-few : goal.returns-clause-few
returns-clause-few c = (IsTree-own _ None c.args.n Leaf (IsTree-empty _ c.args.n c.in_ok-with_room.ensures.empty c.in_ok-with_room.ensures.room (omega arith))).few
