use Rattle.vi_tree.proofs.RoomLemmas.{room_removed}
use Rattle.tests_lists.proofs.tree.Pair.unmap.Goals as goal

pub invariant_of-self : goal.invariant_of-self
invariant_of-self g c = record {
  ranges_room = room_removed c.unmap-wanted.result c.args.self.now.ranges c.unmap-wanted.new.self _ 65 c.unmap-wanted.ensures.number c.unmap-wanted.ensures.removed c.unmap-wanted.ensures.refused c.args.self.now.ranges_room;
  tree_room = room_removed c.unmap-got.result c.args.self.now.tree c.unmap-got.new.self _ 65 c.unmap-got.ensures.number c.unmap-got.ensures.removed c.unmap-got.ensures.refused c.args.self.now.tree_room;
}
