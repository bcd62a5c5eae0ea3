-- Trees as nodes in a slab.
use Rattle.std.specs.Prelude.{◌≡◌, ℕ, ◌+◌, ◌≤◌, Option, Some, length}
use Rattle.slab.specs.Slab.{Slab, get, slab_len}
use Rattle.vi_bytes.specs.declared.span.Span.{Span}
use Rattle.vi_bytes.specs.declared.lease.Mapping.{Mapping}
use Rattle.vi_bytes.specs.Mappings.{AreApart, mapping_meeting}
use Rattle.vi_tree.specs.declared.node.Child.{Child}
use Rattle.vi_tree.specs.declared.node.Node.{Node}
use Rattle.vi_tree.specs.Shapes.{Shape, Leaf, Branch, inorder, tally, link_of, node_of}
use Rattle.vi_tree.specs.Moves.{inserted, Lowest, lowest, merged, without}

-- each branch has its node in the slab
abbrev pub IsHeld : Slab Node → Shape → Type 0
IsHeld s Leaf = Unit {0}
IsHeld s (Branch key l m r) = (get s key ≡ Some (node_of l m r)) × IsHeld s l × IsHeld s r

-- the link leads to the tree, in which no key stands twice
pub record Holds (s : Slab Node) (link : Option Child) (t : Shape) : Type 0 where
  pub leads : link ≡ link_of t
  pub held : IsHeld s t
  pub once : (k : ℕ) → tally k t ≤ 1

-- the link leads to some tree
pub record Stands (s : Slab Node) (link : Option Child) : Type 0 where
  pub shape : Shape
  pub holds : Holds s link shape

-- the link leads to some tree without the key
pub record StandsWithout (s : Slab Node) (link : Option Child) (key : ℕ) : Type 0 where
  pub shape : Shape
  pub holds : Holds s link shape
  pub absent : tally key shape ≡ 0

-- the node's links lead to these trees, which have no key twice and not the node's own
pub record Sides (s : Slab Node) (key : ℕ) (node : Node) (l r : Shape) : Type 0 where
  pub left : node.left ≡ link_of l
  pub right : node.right ≡ link_of r
  pub left_held : IsHeld s l
  pub right_held : IsHeld s r
  pub once : (k : ℕ) → tally k (Branch key l node.mapping r) ≤ 1

pub record HasSides (s : Slab Node) (key : ℕ) (node : Node) : Type 0 where
  pub l : Shape
  pub r : Shape
  pub sides : Sides s key node l r

-- the links lead to two trees without a common key
pub record Beside (s : Slab Node) (left right : Option Child) (l r : Shape) : Type 0 where
  pub leads_left : left ≡ link_of l
  pub leads_right : right ≡ link_of r
  pub left_held : IsHeld s l
  pub right_held : IsHeld s r
  pub once : (k : ℕ) → tally k l + tally k r ≤ 1

pub record StandBeside (s : Slab Node) (left right : Option Child) : Type 0 where
  pub l : Shape
  pub r : Shape
  pub beside : Beside s left right l r

-- the link leads to the tree u, and no node changed but those of `touched`
pub record Becomes (old new : Slab Node) (touched : Shape) (link : Option Child) (u : Shape) : Type 0 where
  pub holds : Holds new link u
  pub others : (k : ℕ) → tally k touched ≡ 0 → get new k ≡ get old k

-- no node came or went
pub record SameRoom (old new : Slab Node) : Type 0 where
  pub len : slab_len new ≡ slab_len old
  pub capacity : new.capacity ≡ old.capacity

-- the branch lost its lowest mapping, whose node stays in the slab
pub record Detaches (old new : Slab Node) (key : ℕ) (mapping : Mapping) (rest : Option Child) (low : Lowest) : Type 0 where
  pub key_is : key ≡ low.key
  pub mapping_is : mapping ≡ low.mapping
  pub becomes : Becomes old new low.rest rest low.rest

-- the node was put under its key with its sides, and what it makes of them is the tree behind the link
abbrev pub Rebuilds : (ℕ → Shape → Mapping → Shape → Shape) → Slab Node → Slab Node → ℕ → Node → Option Child → Type 0
Rebuilds shape old new key node link =
    (l r : Shape) → Sides old key node l r → Becomes old new (Branch key l node.mapping r) link (shape key l node.mapping r)

-- the node with the mapping, under its key, was linked into the tree
abbrev pub Links : Slab Node → Slab Node → ℕ → Mapping → Option Child → Option Child → Type 0
Links old new key m link result =
    (t : Shape) → Holds old link t → tally key t ≡ 0 → Becomes old new (inserted key m t) result (inserted key m t)

-- the mapping that begins at the address was taken out of the tree
abbrev pub Removes : Slab Node → Slab Node → ℕ → Option Child → Option Child → Type 0
Removes old new first link result = (t : Shape) → Holds old link t → Becomes old new t result (without first t)

-- and the slab lost a node where the tree lost a mapping
abbrev pub LosesAlike : Slab Node → Slab Node → ℕ → Option Child → Type 0
LosesAlike old new first link =
    (t : Shape) → Holds old link t → slab_len new + length (inorder t) ≡ slab_len old + length (inorder (without first t))

-- two trees became one
abbrev pub Merges : Slab Node → Slab Node → Option Child → Option Child → Option Child → Type 0
Merges old new left right result = (l r : Shape) → Beside old left right l r → Becomes old new (merged l r) result (merged l r)

-- the branch behind the link lost its lowest mapping
abbrev pub DetachesLowest : Slab Node → Slab Node → Child → ℕ → Mapping → Option Child → Type 0
DetachesLowest old new child key mapping rest =
    (l : Shape) (m : Mapping) (r : Shape) → Holds old (Some child) (Branch child.key l m r) → Detaches old new key mapping rest (lowest child.key l m r)

-- what was found is the lowest mapping of the tree that shares an address with the span
abbrev pub FindsLowest : Slab Node → Option Child → Span → Option Mapping → Type 0
FindsLowest s link span found = (t : Shape) → Holds s link t → AreApart (inorder t) → found ≡ mapping_meeting span (inorder t)
