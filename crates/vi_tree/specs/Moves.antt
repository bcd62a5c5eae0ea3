-- What the tree's moves make of a shape.
use Rattle.std.specs.Prelude.{ℕ, ◌+◌, Bool, false, nat_lt, if◌then◌else◌}
use Rattle.vi_bytes.specs.declared.lease.Mapping.{Mapping}
use Rattle.vi_tree.specs.Shapes.{Shape, Leaf, Branch, height}

-- the top of the left side becomes the top
abbrev pub turned_right : ℕ → Shape → Mapping → Shape → Shape
turned_right key Leaf m r = Branch key Leaf m r
turned_right key (Branch j a x b) m r = Branch j a x (Branch key b m r)

-- the top of the right side becomes the top
abbrev pub turned_left : ℕ → Shape → Mapping → Shape → Shape
turned_left key l m Leaf = Branch key l m Leaf
turned_left key l m (Branch j a x b) = Branch j (Branch key l m a) x b

-- the top of the left side's inner side becomes the top, if there is one
abbrev pub top_from_inner_left : ℕ → ℕ → Shape → Mapping → Shape → Mapping → Shape → Shape
top_from_inner_left key j a x Leaf m r = Branch j a x (Branch key Leaf m r)
top_from_inner_left key j a x (Branch i b y c) m r = Branch i (Branch j a x b) y (Branch key c m r)

abbrev pub lifted_left : ℕ → Shape → Mapping → Shape → Shape
lifted_left key Leaf m r = Branch key Leaf m r
lifted_left key (Branch j a x b) m r = top_from_inner_left key j a x b m r

-- the same of the right side
abbrev pub top_from_inner_right : ℕ → Shape → Mapping → ℕ → Shape → Mapping → Shape → Shape
top_from_inner_right key l m j Leaf x b = Branch j (Branch key l m Leaf) x b
top_from_inner_right key l m j (Branch i a y c) x b = Branch i (Branch key l m a) y (Branch j c x b)

abbrev pub lifted_right : ℕ → Shape → Mapping → Shape → Shape
lifted_right key l m Leaf = Branch key l m Leaf
lifted_right key l m (Branch j a x b) = top_from_inner_right key l m j a x b

-- the right side of the tree is the higher one, or the left side is
abbrev pub leans_right : Shape → Bool
leans_right Leaf = false
leans_right (Branch key l m r) = nat_lt (height l) (height r)

abbrev pub leans_left : Shape → Bool
leans_left Leaf = false
leans_left (Branch key l m r) = nat_lt (height r) (height l)

-- the left side, or its inner side where that is the higher, becomes the top
abbrev pub raised_left : ℕ → Shape → Mapping → Shape → Shape
raised_left key l m r = if leans_right l then lifted_left key l m r else turned_right key l m r

-- the same of the right side
abbrev pub raised_right : ℕ → Shape → Mapping → Shape → Shape
raised_right key l m r = if leans_left r then lifted_right key l m r else turned_left key l m r

-- the branch, with the higher side raised where it is more than one higher
unfoldable pub balanced : ℕ → Shape → Mapping → Shape → Shape
balanced key l m r =
    if nat_lt (height r + 1) (height l) then raised_left key l m r else if nat_lt (height l + 1) (height r) then raised_right key l m r else Branch key l m r

-- the tree with one more mapping, under this key
unfoldable pub inserted : ℕ → Mapping → Shape → Shape
inserted key m Leaf = Branch key Leaf m Leaf
inserted key m (Branch k l x r) =
    if nat_lt m.span.first x.span.first then balanced k (inserted key m l) x r else balanced k l x (inserted key m r)

-- the lowest mapping of a branch with its key, and the branch without it
pub record Lowest : Type 0 where
  pub key : ℕ
  pub mapping : Mapping
  pub rest : Shape

unfoldable pub lowest : ℕ → Shape → Mapping → Shape → Lowest
lowest key Leaf m r = record { key = key; mapping = m; rest = r }
lowest key (Branch k a x b) m r =
    let low = lowest k a x b in
    record { key = low.key; mapping = low.mapping; rest = balanced key low.rest m r }

-- one tree of two, all mappings of the second behind those of the first
unfoldable pub merged : Shape → Shape → Shape
merged l Leaf = l
merged l (Branch k a x b) = let low = lowest k a x b in balanced low.key l low.mapping low.rest

-- the tree without the mapping that begins at the address
unfoldable pub without : ℕ → Shape → Shape
without first Leaf = Leaf
without first (Branch k l m r) =
    if nat_lt first m.span.first then balanced k (without first l) m r else if nat_lt m.span.first first then balanced k l m (without first r) else merged l r
