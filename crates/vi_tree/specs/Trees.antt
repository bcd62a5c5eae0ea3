-- What a tree in a slab is seen as.
use Rattle.std.specs.Prelude.{◌≡◌, ℕ, ◌+◌, ◌^◌, ◌<◌, ◌≤◌, ◌==◌, zero, suc, not, nat_le, if◌then◌else◌, List, filter, Option, Some, None, length}
use Rattle.slab.specs.Slab.{Slab, get, slab_len}
use Rattle.vi_bytes.specs.declared.span.Span.{Span}
use Rattle.vi_bytes.specs.declared.lease.Mapping.{Mapping}
use Rattle.vi_bytes.specs.Spans.{covers}
use Rattle.vi_bytes.specs.Mappings.{AreApart}
use Rattle.vi_tree.specs.declared.node.Child.{Child}
use Rattle.vi_tree.specs.declared.node.Node.{Node}
use Rattle.vi_tree.specs.Shapes.{Shape, Leaf, Branch, inorder, IsBalanced, link_height}
use Rattle.vi_tree.specs.Held.{Holds}

-- the branch of a node, if there is one, given what stands below a link
abbrev pub branch_at : ℕ → (Option Child → Shape) → Option Node → Shape
branch_at key below None = Leaf
branch_at key below (Some node) = Branch key (below node.left) node.mapping (below node.right)

-- the tree to which a link leads, no more than so many levels of it
unfoldable pub shape_within : ℕ → Slab Node → Option Child → Shape
shape_within zero s link = Leaf
shape_within (suc levels) s None = Leaf
shape_within (suc levels) s (Some child) = branch_at child.key (shape_within levels s) (get s child.key)

-- the tree to which a link leads
abbrev pub shape_of : Slab Node → Option Child → Shape
shape_of s link = shape_within (link_height link) s link

-- the tree is balanced, its mappings lie apart, the slab has its nodes and room for more
pub record IsTree (s : Slab Node) (root : Option Child) (spare : ℕ) (t : Shape) : Type 0 where
  pub holds : Holds s root t
  pub balanced : IsBalanced t
  pub apart : AreApart (inorder t)
  pub counted : slab_len s ≡ length (inorder t)
  pub room : length (inorder t) + spare ≤ s.capacity
  pub few : length (inorder t) + spare < 2 ^ 32

-- the mappings but for the one that begins at the address
abbrev pub others_than : ℕ → List Mapping → List Mapping
others_than first ms = filter (λ m. not (m.span.first == first)) ms

-- the mapping, if there is one and it doesn't lie in the span
abbrev pub cut_of : Span → Option Mapping → Option Mapping
cut_of span None = None
cut_of span (Some m) = if covers span m.span then None else Some m

-- the greatest power of two that is at most the number, as its exponent
unfoldable pub log_of : ℕ → ℕ
log_of zero = 0
log_of (suc x) = if nat_le (2 ^ (log_of x + 1)) (suc x) then log_of x + 1 else log_of x

-- how high a balanced tree of so many mappings may be
unfoldable pub level : ℕ → ℕ
level n = log_of ((n + 1) ^ 2)
