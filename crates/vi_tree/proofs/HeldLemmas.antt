-- Trees whose nodes lie in a slab, through changes of the slab.
use Rattle.std.proofs.Common.{◌≡◌, ◌≢◌, ℕ, ◌+◌, ◌≤◌, ◌<◌, max, Option, Some, None, refl, sym, ap, ◌∙◌, arith, is_some, ⊎_elim, subst, nat_lt}
use Rattle.std.proofs.lemmas.Bool.{cases_eq, cases_lt}
use Rattle.slab.specs.Slab.{Slab, get, ContainsKey, Updates}
use Rattle.vi_bytes.specs.declared.lease.Mapping.{Mapping}
use Rattle.vi_tree.specs.declared.node.Child.{Child}
use Rattle.vi_tree.specs.declared.node.Node.{Node}
use Rattle.vi_tree.specs.Shapes.{Shape, Leaf, Branch, height, one_at, tally, link_of, link_height, node_of}
use Rattle.vi_tree.specs.Moves.{turned_right, turned_left, lifted_left, lifted_right, leans_right, leans_left, raised_left, raised_right}
use Rattle.vi_tree.specs.Held.{IsHeld, Sides, Becomes}
use Rattle.vi_tree.proofs.ShapeLemmas.{one_at-same, one_at-other, link_height-link_of}

-- a tree stays where its nodes stay
pub IsHeld-kept : (s s1 : Slab Node) (t : Shape) → IsHeld s t → ((k : ℕ) → 1 ≤ tally k t → get s1 k ≡ get s k) → IsHeld s1 t
IsHeld-kept s s1 Leaf held same = tt
IsHeld-kept s s1 (Branch key l m r) held same =
    let here : one_at key key ≡ 1 = one_at-same key in (
      same key (omega arith) ∙ held.0,
      IsHeld-kept s s1 l held.1 (λ k some. same k (omega arith)),
      IsHeld-kept s s1 r held.2 (λ k some. same k (omega arith)),
    )

-- a change under a key that the tree doesn't have
pub IsHeld-updates : (s s1 : Slab Node) (key : ℕ) (slot : Option Node) (t : Shape) → Updates s s1 key slot → tally key t ≡ 0 → IsHeld s t → IsHeld s1 t
IsHeld-updates s s1 key slot t updates absent held = IsHeld-kept s s1 t held (λ k some. updates.others k (λ (same : k ≡ key). let there : 1 ≤ tally key t = rw same at some in absurd (omega arith)))

-- a node is its three parts
node_is : (node : Node) (left right : Option Child) → node.left ≡ left → node.right ≡ right → Some node ≡ Some (record { mapping = node.mapping; left = left; right = right })
node_is node left right l r = rw (← l, ← r) refl

-- a node whose sides are there makes a branch
pub IsHeld-put : (s s1 : Slab Node) (key : ℕ) (node : Node) (l : Shape) (r : Shape) → Updates s s1 key (Some node) → node.left ≡ link_of l → node.right ≡ link_of r → tally key l ≡ 0 → tally key r ≡ 0 → IsHeld s l → IsHeld s r → IsHeld s1 (Branch key l node.mapping r)
IsHeld-put s s1 key node l r updates left right no_left no_right l_held r_held = (
  updates.changed ∙ node_is node (link_of l) (link_of r) left right,
  IsHeld-updates s s1 key (Some node) l updates no_left l_held,
  IsHeld-updates s s1 key (Some node) r updates no_right r_held,
)

-- the node under a key of the tree
pub ContainsKey-from_IsHeld : (s : Slab Node) (t : Shape) (k : ℕ) → IsHeld s t → 1 ≤ tally k t → ContainsKey s k
ContainsKey-from_IsHeld s Leaf k held some = absurd (omega arith)
ContainsKey-from_IsHeld s (Branch key l m r) k held some =
    ⊎_elim
    (λ (same : k ≡ key). ap is_some (ap (get s) same ∙ held.0))
    (λ (other : k ≢ key).
    let none : one_at k key ≡ 0 = one_at-other k key other in
    ⊎_elim
    (λ (in_left : 0 < tally k l). ContainsKey-from_IsHeld s l k held.1 (omega arith))
    (λ (absent : tally k l ≤ 0). ContainsKey-from_IsHeld s r k held.2 (omega arith))
    (cases_lt 0 (tally k l)))
    (cases_eq k key)

-- what is known behind a link whose node was read
pub record Opened (s : Slab Node) (child : Child) (node : Node) (t : Shape) : Type 0 where
  pub l : Shape
  pub r : Shape
  pub is : t ≡ Branch child.key l node.mapping r
  pub left : node.left ≡ link_of l
  pub right : node.right ≡ link_of r
  pub high : child.height ≡ max (height l) (height r) + 1
  pub l_held : IsHeld s l
  pub r_held : IsHeld s r

pub opened : (s : Slab Node) (child : Child) (node : Node) (t : Shape) → Some child ≡ link_of t → IsHeld s t → get s child.key ≡ Some node → Opened s child node t
opened s child node Leaf leads held read = absurd (cc)
opened s child node (Branch key l m r) leads held read =
    let same : child ≡ record { key = key; height = max (height l) (height r) + 1 } = cc in
    let here : child.key ≡ key = ap (λ c. c.key) same in
    let there : get s child.key ≡ Some (node_of l m r) = rw here held.0 in
    let node_same : node ≡ node_of l m r = cc in
    record {
      l = l;
      r = r;
      is = rw (here, node_same) refl;
      left = ap (λ n. n.left) node_same;
      right = ap (λ n. n.right) node_same;
      high = ap (λ c. c.height) same;
      l_held = held.1;
      r_held = held.2;
    }

-- behind no link stands no tree
pub leaf_from_link : (t : Shape) → None ≡ link_of t → t ≡ Leaf
leaf_from_link Leaf leads = refl
leaf_from_link (Branch key l m r) leads = absurd (cc)

-- the node to which a link leads is there
pub ContainsKey-from_link : (s : Slab Node) (child : Child) (t : Shape) → Some child ≡ link_of t → IsHeld s t → ContainsKey s child.key
ContainsKey-from_link s child Leaf leads held = absurd (cc)
ContainsKey-from_link s child (Branch key l m r) leads held =
    let same : child ≡ record { key = key; height = max (height l) (height r) + 1 } = cc in
    ap is_some (ap (λ (c : Child). get s c.key) same ∙ held.0)

-- the links of a node below are lower
pub record LowLinks (child : Child) (node : Node) : Type 0 where
  pub left : link_height node.left < child.height
  pub right : link_height node.right < child.height

pub low_links : (s : Slab Node) (child : Child) (node : Node) (t : Shape) → Some child ≡ link_of t → IsHeld s t → get s child.key ≡ Some node → LowLinks child node
low_links s child node t leads held read =
    let o = opened s child node t leads held read in
    let l_height : link_height node.left ≡ height o.l = ap link_height o.left ∙ link_height-link_of o.l in
    let r_height : link_height node.right ≡ height o.r = ap link_height o.right ∙ link_height-link_of o.r in
    record { left = omega (arith, o.high); right = omega (arith, o.high) }

-- a tree none of whose nodes were touched
pub IsHeld-beside : {s s1 : Slab Node} {touched : Shape} {link : Option Child} {u : Shape} → Becomes s s1 touched link u → (t : Shape) → IsHeld s t → ((k : ℕ) → 1 ≤ tally k t → tally k touched ≡ 0) → IsHeld s1 t
IsHeld-beside {s} {s1} becomes t held apart = IsHeld-kept s s1 t held (λ k some. becomes.others k (apart k some))

-- the node is put under its key as it is
pub Becomes-place : (s s1 : Slab Node) (key : ℕ) (node : Node) (l r : Shape) (link : Option Child) → Sides s key node l r → Updates s s1 key (Some node) → link ≡ Some (record { key = key; height = max (link_height node.left) (link_height node.right) + 1 }) → Becomes s s1 (Branch key l node.mapping r) link (Branch key l node.mapping r)
Becomes-place s s1 key node l r link sides updates is =
    let here : one_at key key ≡ 1 = one_at-same key in
    let once = sides.once key in
    let l_height : link_height node.left ≡ height l = ap link_height sides.left ∙ link_height-link_of l in
    let r_height : link_height node.right ≡ height r = ap link_height sides.right ∙ link_height-link_of r in
    record {
      holds = record {
        leads = is ∙ (rw (l_height, r_height) refl);
        held = IsHeld-put s s1 key node l r updates sides.left sides.right (omega arith) (omega arith) sides.left_held sides.right_held;
        once = sides.once;
      };
      others = λ k none. updates.others k (λ (same : k ≡ key). let one : one_at k key ≡ 1 = rw same here in absurd (omega arith));
    }

-- the left side's top becomes the top
turned_right_at : (s s1 s2 : Slab Node) (key : ℕ) (node : Node) (j : ℕ) (left : Node) (a b r : Shape) (right link : Option Child) → left.left ≡ link_of a → left.right ≡ link_of b → Sides s key node (Branch j a left.mapping b) r → Updates s s1 key (Some (record node { left = left.right })) → right ≡ Some (record { key = key; height = max (link_height left.right) (link_height node.right) + 1 }) → Updates s1 s2 j (Some (record left { right = right })) → link ≡ Some (record { key = j; height = max (link_height left.left) (link_height right) + 1 }) → Becomes s s2 (Branch key (Branch j a left.mapping b) node.mapping r) link (Branch j a left.mapping (Branch key b node.mapping r))
turned_right_at s s1 s2 key node j left a b r right link is_a is_b sides first right_is second link_is =
    let inner : Sides s key (record node { left = left.right }) b r = record { left = is_b; right = sides.right; left_held = sides.left_held.2; right_held = sides.right_held; once = λ k. let o = sides.once k in omega arith } in
    let low = Becomes-place s s1 key (record node { left = left.right }) b r right inner first right_is in
    let here_j : one_at j j ≡ 1 = one_at-same j in
    let outer : Sides s1 j (record left { right = right }) a (Branch key b node.mapping r) = record {
      left = is_a;
      right = low.holds.leads;
      left_held = IsHeld-beside low a sides.left_held.1 (λ k some. let o = sides.once k in omega arith);
      right_held = low.holds.held;
      once = λ k. let o = sides.once k in omega arith;
    } in
    let high = Becomes-place s1 s2 j (record left { right = right }) a (Branch key b node.mapping r) link outer second link_is in
    record { holds = high.holds; others = λ k none. high.others k (omega arith) ∙ low.others k (omega arith) }

pub Becomes-turned_right : (s s1 s2 : Slab Node) (key : ℕ) (node : Node) (side : Child) (left : Node) (l r : Shape) (right link : Option Child) → node.left ≡ Some side → get s side.key ≡ Some left → Sides s key node l r → Updates s s1 key (Some (record node { left = left.right })) → right ≡ Some (record { key = key; height = max (link_height left.right) (link_height node.right) + 1 }) → Updates s1 s2 side.key (Some (record left { right = right })) → link ≡ Some (record { key = side.key; height = max (link_height left.left) (link_height right) + 1 }) → Becomes s s2 (Branch key l node.mapping r) link (turned_right key l node.mapping r)
Becomes-turned_right s s1 s2 key node side left l r right link leads read sides first right_is second link_is =
    let o = opened s side left l (sym leads ∙ sides.left) sides.left_held read in
    let P : Shape → Type 0 = λ l. Becomes s s2 (Branch key l node.mapping r) link (turned_right key l node.mapping r) in
    subst P (sym o.is) (turned_right_at s s1 s2 key node side.key left o.l o.r r right link o.left o.right (subst (λ l. Sides s key node l r) o.is sides) first right_is second link_is)

-- the right side's top becomes the top
turned_left_at : (s s1 s2 : Slab Node) (key : ℕ) (node : Node) (j : ℕ) (right : Node) (l a b : Shape) (left link : Option Child) → right.left ≡ link_of a → right.right ≡ link_of b → Sides s key node l (Branch j a right.mapping b) → Updates s s1 key (Some (record node { right = right.left })) → left ≡ Some (record { key = key; height = max (link_height node.left) (link_height right.left) + 1 }) → Updates s1 s2 j (Some (record right { left = left })) → link ≡ Some (record { key = j; height = max (link_height left) (link_height right.right) + 1 }) → Becomes s s2 (Branch key l node.mapping (Branch j a right.mapping b)) link (Branch j (Branch key l node.mapping a) right.mapping b)
turned_left_at s s1 s2 key node j right l a b left link is_a is_b sides first left_is second link_is =
    let inner : Sides s key (record node { right = right.left }) l a = record { left = sides.left; right = is_a; left_held = sides.left_held; right_held = sides.right_held.1; once = λ k. let o = sides.once k in omega arith } in
    let low = Becomes-place s s1 key (record node { right = right.left }) l a left inner first left_is in
    let outer : Sides s1 j (record right { left = left }) (Branch key l node.mapping a) b = record {
      left = low.holds.leads;
      right = is_b;
      left_held = low.holds.held;
      right_held = IsHeld-beside low b sides.right_held.2 (λ k some. let o = sides.once k in omega arith);
      once = λ k. let o = sides.once k in omega arith;
    } in
    let high = Becomes-place s1 s2 j (record right { left = left }) (Branch key l node.mapping a) b link outer second link_is in
    record { holds = high.holds; others = λ k none. high.others k (omega arith) ∙ low.others k (omega arith) }

pub Becomes-turned_left : (s s1 s2 : Slab Node) (key : ℕ) (node : Node) (side : Child) (right : Node) (l r : Shape) (left link : Option Child) → node.right ≡ Some side → get s side.key ≡ Some right → Sides s key node l r → Updates s s1 key (Some (record node { right = right.left })) → left ≡ Some (record { key = key; height = max (link_height node.left) (link_height right.left) + 1 }) → Updates s1 s2 side.key (Some (record right { left = left })) → link ≡ Some (record { key = side.key; height = max (link_height left) (link_height right.right) + 1 }) → Becomes s s2 (Branch key l node.mapping r) link (turned_left key l node.mapping r)
Becomes-turned_left s s1 s2 key node side right l r left link leads read sides first left_is second link_is =
    let o = opened s side right r (sym leads ∙ sides.right) sides.right_held read in
    let P : Shape → Type 0 = λ r. Becomes s s2 (Branch key l node.mapping r) link (turned_left key l node.mapping r) in
    subst P (sym o.is) (turned_left_at s s1 s2 key node side.key right l o.l o.r left link o.left o.right (subst (λ r. Sides s key node l r) o.is sides) first left_is second link_is)

-- the top of the left side's inner side becomes the top
lifted_left_at : (s s1 s2 s3 : Slab Node) (key : ℕ) (node : Node) (j : ℕ) (left : Node) (i : ℕ) (top : Node) (a b c r : Shape) (lower higher link : Option Child) → left.left ≡ link_of a → top.left ≡ link_of b → top.right ≡ link_of c → Sides s key node (Branch j a left.mapping (Branch i b top.mapping c)) r
    → Updates s s1 j (Some (record left { right = top.left })) → lower ≡ Some (record { key = j; height = max (link_height left.left) (link_height top.left) + 1 })
    → Updates s1 s2 key (Some (record node { left = top.right })) → higher ≡ Some (record { key = key; height = max (link_height top.right) (link_height node.right) + 1 })
    → Updates s2 s3 i (Some (record top { left = lower; right = higher })) → link ≡ Some (record { key = i; height = max (link_height lower) (link_height higher) + 1 })
    → Becomes s s3 (Branch key (Branch j a left.mapping (Branch i b top.mapping c)) node.mapping r) link (Branch i (Branch j a left.mapping b) top.mapping (Branch key c node.mapping r))
lifted_left_at s s1 s2 s3 key node j left i top a b c r lower higher link is_a is_b is_c sides first lower_is second higher_is third link_is =
    let low_sides : Sides s j (record left { right = top.left }) a b = record { left = is_a; right = is_b; left_held = sides.left_held.1; right_held = sides.left_held.2.1; once = λ k. let o = sides.once k in omega arith } in
    let low = Becomes-place s s1 j (record left { right = top.left }) a b lower low_sides first lower_is in
    let high_sides : Sides s1 key (record node { left = top.right }) c r = record {
      left = is_c;
      right = sides.right;
      left_held = IsHeld-beside low c sides.left_held.2.2 (λ k some. let o = sides.once k in omega arith);
      right_held = IsHeld-beside low r sides.right_held (λ k some. let o = sides.once k in omega arith);
      once = λ k. let o = sides.once k in omega arith;
    } in
    let high = Becomes-place s1 s2 key (record node { left = top.right }) c r higher high_sides second higher_is in
    let top_sides : Sides s2 i (record top { left = lower; right = higher }) (Branch j a left.mapping b) (Branch key c node.mapping r) = record {
      left = low.holds.leads;
      right = high.holds.leads;
      left_held = IsHeld-beside high (Branch j a left.mapping b) low.holds.held (λ k some. let o = sides.once k in omega arith);
      right_held = high.holds.held;
      once = λ k. let o = sides.once k in omega arith;
    } in
    let all = Becomes-place s2 s3 i (record top { left = lower; right = higher }) (Branch j a left.mapping b) (Branch key c node.mapping r) link top_sides third link_is in
    record { holds = all.holds; others = λ k none. all.others k (omega arith) ∙ high.others k (omega arith) ∙ low.others k (omega arith) }

pub Becomes-lifted_left : (s s1 s2 s3 : Slab Node) (key : ℕ) (node : Node) (side : Child) (left : Node) (inner : Child) (top : Node) (l r : Shape) (lower higher link : Option Child) → node.left ≡ Some side → get s side.key ≡ Some left → left.right ≡ Some inner → get s inner.key ≡ Some top → Sides s key node l r
    → Updates s s1 side.key (Some (record left { right = top.left })) → lower ≡ Some (record { key = side.key; height = max (link_height left.left) (link_height top.left) + 1 })
    → Updates s1 s2 key (Some (record node { left = top.right })) → higher ≡ Some (record { key = key; height = max (link_height top.right) (link_height node.right) + 1 })
    → Updates s2 s3 inner.key (Some (record top { left = lower; right = higher })) → link ≡ Some (record { key = inner.key; height = max (link_height lower) (link_height higher) + 1 })
    → Becomes s s3 (Branch key l node.mapping r) link (lifted_left key l node.mapping r)
Becomes-lifted_left s s1 s2 s3 key node side left inner top l r lower higher link leads read leads_in read_in sides first lower_is second higher_is third link_is =
    let o = opened s side left l (sym leads ∙ sides.left) sides.left_held read in
    let p = opened s inner top o.r (sym leads_in ∙ o.right) o.r_held read_in in
    let is : l ≡ Branch side.key o.l left.mapping (Branch inner.key p.l top.mapping p.r) = o.is ∙ ap (λ u. Branch side.key o.l left.mapping u) p.is in
    let P : Shape → Type 0 = λ l. Becomes s s3 (Branch key l node.mapping r) link (lifted_left key l node.mapping r) in
    subst P (sym is) (lifted_left_at s s1 s2 s3 key node side.key left inner.key top o.l p.l p.r r lower higher link o.left p.left p.right (subst (λ l. Sides s key node l r) is sides) first lower_is second higher_is third link_is)

-- the top of the right side's inner side becomes the top
lifted_right_at : (s s1 s2 s3 : Slab Node) (key : ℕ) (node : Node) (j : ℕ) (right : Node) (i : ℕ) (top : Node) (l a c b : Shape) (lower higher link : Option Child) → top.left ≡ link_of a → top.right ≡ link_of c → right.right ≡ link_of b → Sides s key node l (Branch j (Branch i a top.mapping c) right.mapping b)
    → Updates s s1 key (Some (record node { right = top.left })) → lower ≡ Some (record { key = key; height = max (link_height node.left) (link_height top.left) + 1 })
    → Updates s1 s2 j (Some (record right { left = top.right })) → higher ≡ Some (record { key = j; height = max (link_height top.right) (link_height right.right) + 1 })
    → Updates s2 s3 i (Some (record top { left = lower; right = higher })) → link ≡ Some (record { key = i; height = max (link_height lower) (link_height higher) + 1 })
    → Becomes s s3 (Branch key l node.mapping (Branch j (Branch i a top.mapping c) right.mapping b)) link (Branch i (Branch key l node.mapping a) top.mapping (Branch j c right.mapping b))
lifted_right_at s s1 s2 s3 key node j right i top l a c b lower higher link is_a is_c is_b sides first lower_is second higher_is third link_is =
    let low_sides : Sides s key (record node { right = top.left }) l a = record { left = sides.left; right = is_a; left_held = sides.left_held; right_held = sides.right_held.1.1; once = λ k. let o = sides.once k in omega arith } in
    let low = Becomes-place s s1 key (record node { right = top.left }) l a lower low_sides first lower_is in
    let high_sides : Sides s1 j (record right { left = top.right }) c b = record {
      left = is_c;
      right = is_b;
      left_held = IsHeld-beside low c sides.right_held.1.2 (λ k some. let o = sides.once k in omega arith);
      right_held = IsHeld-beside low b sides.right_held.2 (λ k some. let o = sides.once k in omega arith);
      once = λ k. let o = sides.once k in omega arith;
    } in
    let high = Becomes-place s1 s2 j (record right { left = top.right }) c b higher high_sides second higher_is in
    let top_sides : Sides s2 i (record top { left = lower; right = higher }) (Branch key l node.mapping a) (Branch j c right.mapping b) = record {
      left = low.holds.leads;
      right = high.holds.leads;
      left_held = IsHeld-beside high (Branch key l node.mapping a) low.holds.held (λ k some. let o = sides.once k in omega arith);
      right_held = high.holds.held;
      once = λ k. let o = sides.once k in omega arith;
    } in
    let all = Becomes-place s2 s3 i (record top { left = lower; right = higher }) (Branch key l node.mapping a) (Branch j c right.mapping b) link top_sides third link_is in
    record { holds = all.holds; others = λ k none. all.others k (omega arith) ∙ high.others k (omega arith) ∙ low.others k (omega arith) }

pub Becomes-lifted_right : (s s1 s2 s3 : Slab Node) (key : ℕ) (node : Node) (side : Child) (right : Node) (inner : Child) (top : Node) (l r : Shape) (lower higher link : Option Child) → node.right ≡ Some side → get s side.key ≡ Some right → right.left ≡ Some inner → get s inner.key ≡ Some top → Sides s key node l r
    → Updates s s1 key (Some (record node { right = top.left })) → lower ≡ Some (record { key = key; height = max (link_height node.left) (link_height top.left) + 1 })
    → Updates s1 s2 side.key (Some (record right { left = top.right })) → higher ≡ Some (record { key = side.key; height = max (link_height top.right) (link_height right.right) + 1 })
    → Updates s2 s3 inner.key (Some (record top { left = lower; right = higher })) → link ≡ Some (record { key = inner.key; height = max (link_height lower) (link_height higher) + 1 })
    → Becomes s s3 (Branch key l node.mapping r) link (lifted_right key l node.mapping r)
Becomes-lifted_right s s1 s2 s3 key node side right inner top l r lower higher link leads read leads_in read_in sides first lower_is second higher_is third link_is =
    let o = opened s side right r (sym leads ∙ sides.right) sides.right_held read in
    let p = opened s inner top o.l (sym leads_in ∙ o.left) o.l_held read_in in
    let is : r ≡ Branch side.key (Branch inner.key p.l top.mapping p.r) right.mapping o.r = o.is ∙ ap (λ u. Branch side.key u right.mapping o.r) p.is in
    let P : Shape → Type 0 = λ r. Becomes s s3 (Branch key l node.mapping r) link (lifted_right key l node.mapping r) in
    subst P (sym is) (lifted_right_at s s1 s2 s3 key node side.key right inner.key top l p.l p.r o.r lower higher link p.left p.right o.right (subst (λ r. Sides s key node l r) is sides) first lower_is second higher_is third link_is)

-- where there is no inner side, lifting it turns
pub lifted_left-none : (s : Slab Node) (key : ℕ) (node : Node) (side : Child) (left : Node) (l r : Shape) → node.left ≡ Some side → get s side.key ≡ Some left → left.right ≡ None → Sides s key node l r → lifted_left key l node.mapping r ≡ turned_right key l node.mapping r
lifted_left-none s key node side left l r leads read none sides =
    let o = opened s side left l (sym leads ∙ sides.left) sides.left_held read in
    let leaf = leaf_from_link o.r (sym none ∙ o.right) in
    let is : l ≡ Branch side.key o.l left.mapping Leaf = o.is ∙ ap (λ u. Branch side.key o.l left.mapping u) leaf in
    rw is refl

pub lifted_right-none : (s : Slab Node) (key : ℕ) (node : Node) (side : Child) (right : Node) (l r : Shape) → node.right ≡ Some side → get s side.key ≡ Some right → right.left ≡ None → Sides s key node l r → lifted_right key l node.mapping r ≡ turned_left key l node.mapping r
lifted_right-none s key node side right l r leads read none sides =
    let o = opened s side right r (sym leads ∙ sides.right) sides.right_held read in
    let leaf = leaf_from_link o.l (sym none ∙ o.left) in
    let is : r ≡ Branch side.key Leaf right.mapping o.r = o.is ∙ ap (λ u. Branch side.key u right.mapping o.r) leaf in
    rw is refl

-- which of the two raises a side
pub raised_left-leans : (s : Slab Node) (key : ℕ) (node : Node) (side : Child) (left : Node) (l r : Shape) → node.left ≡ Some side → get s side.key ≡ Some left → Sides s key node l r → leans_right l ≡ nat_lt (link_height left.left) (link_height left.right)
raised_left-leans s key node side left l r leads read sides =
    let o = opened s side left l (sym leads ∙ sides.left) sides.left_held read in
    let l_height : link_height left.left ≡ height o.l = ap link_height o.left ∙ link_height-link_of o.l in
    let r_height : link_height left.right ≡ height o.r = ap link_height o.right ∙ link_height-link_of o.r in
    ap leans_right o.is ∙ rw (l_height, r_height) refl

pub raised_right-leans : (s : Slab Node) (key : ℕ) (node : Node) (side : Child) (right : Node) (l r : Shape) → node.right ≡ Some side → get s side.key ≡ Some right → Sides s key node l r → leans_left r ≡ nat_lt (link_height right.right) (link_height right.left)
raised_right-leans s key node side right l r leads read sides =
    let o = opened s side right r (sym leads ∙ sides.right) sides.right_held read in
    let l_height : link_height right.left ≡ height o.l = ap link_height o.left ∙ link_height-link_of o.l in
    let r_height : link_height right.right ≡ height o.r = ap link_height o.right ∙ link_height-link_of o.r in
    ap leans_left o.is ∙ rw (l_height, r_height) refl

-- a side to which no link leads is not raised
pub raised_left-none : (key : ℕ) (m : Mapping) (l r : Shape) → None ≡ link_of l → raised_left key l m r ≡ Branch key l m r
raised_left-none key m l r leads = let leaf = leaf_from_link l leads in rw leaf refl

pub raised_right-none : (key : ℕ) (m : Mapping) (l r : Shape) → None ≡ link_of r → raised_right key l m r ≡ Branch key l m r
raised_right-none key m l r leads = let leaf = leaf_from_link r leads in rw leaf refl
