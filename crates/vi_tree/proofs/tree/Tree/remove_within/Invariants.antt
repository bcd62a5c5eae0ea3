use Rattle.std.proofs.Common.{◌+◌, ◌*◌, ◌≤◌, length}
use Rattle.vi_tree.specs.Trees.{level}
use Rattle.vi_tree.proofs.UnmapLemmas.{TakenOut}
use Rattle.vi_tree.proofs.tree.Tree.remove_within.Given as goal

-- so many mappings were taken out, each with as many steps as the highest tree asks for
abbrev pub invariant-loop-met : goal.invariant-loop-met
invariant-loop-met l = TakenOut l.span l.fn.self l.self l.removed × (l.fn.steps ≤ l.steps) × (l.steps ≤ l.fn.steps + l.removed * (7 * level (length l.fn.self.mappings) + 1))

-- the mappings that are left
abbrev pub decreases-loop-met : goal.decreases-loop-met
decreases-loop-met l = length l.self.mappings
