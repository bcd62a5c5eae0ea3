use Rattle.vi_tree.specs.Shapes.{link_height}
use Rattle.vi_tree.proofs.remove.+remove_at.Given as goal

-- the height of the tree
abbrev pub decreases-remove_at : goal.decreases-remove_at
decreases-remove_at l = link_height l.link
