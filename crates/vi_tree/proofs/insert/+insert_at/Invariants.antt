use Rattle.vi_tree.specs.Shapes.{link_height}
use Rattle.vi_tree.proofs.insert.+insert_at.Given as goal

-- the height of the tree
abbrev pub decreases-insert_at : goal.decreases-insert_at
decreases-insert_at l = link_height l.link
