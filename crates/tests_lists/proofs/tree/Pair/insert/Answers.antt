use Rattle.std.proofs.Common.{arith}
use Rattle.vi_tree.proofs.RoomLemmas.{room_inserted}
use Rattle.tests_lists.proofs.tree.Pair.insert.Goals as goal

pub invariant_of-self : goal.invariant_of-self
invariant_of-self g c =
    let ranges_room = c.args.self.now.ranges_room in
    let tree_room = c.args.self.now.tree_room in
    record {
      ranges_room = room_inserted c.insert-wanted.result c.args.self.now.ranges c.insert-wanted.new.self c.mapping-m.result 65 c.insert-wanted.ensures.inserted c.insert-wanted.ensures.refused (omega arith) ranges_room;
      tree_room = room_inserted c.insert-got.result c.args.self.now.tree c.insert-got.new.self c.mapping-m.result 65 c.insert-got.ensures.inserted c.insert-got.ensures.refused (omega arith) tree_room;
    }
