-- Search trees of mappings. Each branch has the key under which its node is kept.
use Rattle.std.specs.Prelude.{ℕ, ◌+◌, ◌≤◌, ◌==◌, max, if◌then◌else◌, List, [], ◌∷◌, ◌++◌, Option, Some, None}
use Rattle.vi_bytes.specs.declared.lease.Mapping.{Mapping}
use Rattle.vi_tree.specs.declared.node.Child.{Child}
use Rattle.vi_tree.specs.declared.node.Node.{Node}

pub data Shape : Type 0 where
  Leaf : Shape
  Branch : (key : ℕ) (left : Shape) (mapping : Mapping) (right : Shape) → Shape

-- the number of branches on the longest way down
abbrev pub height : Shape → ℕ
height Leaf = 0
height (Branch key l m r) = max (height l) (height r) + 1

-- the mappings from left to right
abbrev pub inorder : Shape → List Mapping
inorder Leaf = []
inorder (Branch key l m r) = inorder l ++ m ∷ inorder r

-- 1 where the keys are the same, and 0 elsewhere
unfoldable pub one_at : ℕ → ℕ → ℕ
one_at k key = if k == key then 1 else 0

-- how often the tree has the key
abbrev pub tally : ℕ → Shape → ℕ
tally k Leaf = 0
tally k (Branch key l m r) = one_at k key + tally k l + tally k r

-- at each branch one side is at most one higher than the other
abbrev pub IsBalanced : Shape → Type 0
IsBalanced Leaf = Unit {0}
IsBalanced (Branch key l m r) = (height l ≤ height r + 1) × (height r ≤ height l + 1) × IsBalanced l × IsBalanced r

-- how a node above names the tree: by the key of its top and by its height
abbrev pub link_of : Shape → Option Child
link_of Leaf = None
link_of (Branch key l m r) = Some (record { key = key; height = max (height l) (height r) + 1 })

-- the height that a link tells
abbrev pub link_height : Option Child → ℕ
link_height None = 0
link_height (Some child) = child.height

-- the node at the top of a branch
abbrev pub node_of : Shape → Mapping → Shape → Node
node_of l m r = record { mapping = m; left = link_of l; right = link_of r }
