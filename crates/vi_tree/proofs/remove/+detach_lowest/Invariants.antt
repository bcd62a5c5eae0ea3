use Rattle.vi_tree.proofs.remove.+detach_lowest.Given as goal

-- the height of the tree
abbrev pub decreases-detach_lowest : goal.decreases-detach_lowest
decreases-detach_lowest l = l.child.height
