-- One level of inserting and of removing, over the slab's states.
use Rattle.std.proofs.Common.{◌≡◌, ◌≢◌, ℕ, ◌+◌, ◌≤◌, ◌<◌, Option, Some, None, refl, sym, ap, ◌∙◌, arith, is_some, ⊎_elim, subst}
use Rattle.std.proofs.lemmas.Bool.{cases_eq}
use Rattle.slab.specs.Slab.{Slab, get, ContainsKey}
use Rattle.vi_bytes.specs.declared.lease.Mapping.{Mapping}
use Rattle.vi_tree.specs.declared.node.Child.{Child}
use Rattle.vi_tree.specs.declared.node.Node.{Node}
use Rattle.vi_tree.specs.Shapes.{Shape, Leaf, Branch, height, one_at, tally, link_of, link_height, node_of}
use Rattle.vi_tree.specs.Moves.{balanced, inserted}
use Rattle.vi_tree.specs.Held.{Holds, Sides, Becomes}
use Rattle.vi_tree.proofs.ShapeLemmas.{one_at-same, one_at-other, link_height-link_of, tally-balanced}
use Rattle.vi_tree.proofs.MoveLemmas.{inserted-lower, inserted-higher, inserted-leaf, tally-inserted, height-inserted}
use Rattle.vi_tree.proofs.HeldLemmas.{IsHeld-beside, Opened, opened, leaf_from_link}

-- a key that the tree has is not one that it doesn't have
one_at-absent : (j key : ℕ) (t : Shape) → tally key t ≡ 0 → 1 ≤ tally j t → one_at j key ≡ 0
one_at-absent j key t absent some = one_at-other j key (λ (same : j ≡ key). let there : 1 ≤ tally key t = rw same at some in absurd (omega arith))

once_more : (k key : ℕ) (t : Shape) → tally k t ≤ 1 → tally key t ≡ 0 → tally k t + one_at k key ≤ 1
once_more k key t once absent =
    ⊎_elim
    (λ (same : k ≡ key).
    let none : tally k t ≡ 0 = ap (λ j. tally j t) same ∙ absent in
    let one : one_at k key ≡ 1 = ap (λ j. one_at j key) same ∙ one_at-same key in
    omega arith)
    (λ (other : k ≢ key). let zero_here : one_at k key ≡ 0 = one_at-other k key other in omega arith)
    (cases_eq k key)

-- the trees behind the links of a node that was read
pub holds_left : (s : Slab Node) (child : Child) (node : Node) (t : Shape) → Holds s (Some child) t → (read : get s child.key ≡ Some node) → (o : Opened s child node t) → Holds s node.left o.l
holds_left s child node t holds read o = record { leads = o.left; held = o.l_held; once = λ k. let h = rw o.is at (holds.once k) in omega arith }

pub holds_right : (s : Slab Node) (child : Child) (node : Node) (t : Shape) → Holds s (Some child) t → (read : get s child.key ≡ Some node) → (o : Opened s child node t) → Holds s node.right o.r
holds_right s child node t holds read o = record { leads = o.right; held = o.r_held; once = λ k. let h = rw o.is at (holds.once k) in omega arith }

-- a new tree on one side, made of the old one and perhaps a key that the whole tree did not have
pub Sides-left : (s s1 : Slab Node) (child : Child) (node : Node) (t : Shape) (link : Option Child) (touched u : Shape) → Holds s (Some child) t → get s child.key ≡ Some node → (o : Opened s child node t) → Becomes s s1 touched link u
    → ((k : ℕ) → 1 ≤ one_at k child.key + tally k o.r → tally k touched ≡ 0)
    → ((k : ℕ) → one_at k child.key + tally k u + tally k o.r ≤ 1)
    → Sides s1 child.key (record node { left = link }) u o.r
Sides-left s s1 child node t link touched u holds read o becomes apart once = record {
  left = becomes.holds.leads;
  right = o.right;
  left_held = becomes.holds.held;
  right_held = IsHeld-beside becomes o.r o.r_held (λ k some. apart k (omega arith));
  once = once;
}

pub Sides-right : (s s1 : Slab Node) (child : Child) (node : Node) (t : Shape) (link : Option Child) (touched u : Shape) → Holds s (Some child) t → get s child.key ≡ Some node → (o : Opened s child node t) → Becomes s s1 touched link u
    → ((k : ℕ) → 1 ≤ one_at k child.key + tally k o.l → tally k touched ≡ 0)
    → ((k : ℕ) → one_at k child.key + tally k o.l + tally k u ≤ 1)
    → Sides s1 child.key (record node { right = link }) o.l u
Sides-right s s1 child node t link touched u holds read o becomes apart once = record {
  left = o.left;
  right = becomes.holds.leads;
  left_held = IsHeld-beside becomes o.l o.l_held (λ k some. apart k (omega arith));
  right_held = becomes.holds.held;
  once = once;
}

-- the node itself stayed
pub ContainsKey-beside : (s s1 : Slab Node) (key : ℕ) (node : Node) (link : Option Child) (touched u : Shape) → get s key ≡ Some node → Becomes s s1 touched link u → tally key touched ≡ 0 → ContainsKey s1 key
ContainsKey-beside s s1 key node link touched u read becomes none = ap is_some (becomes.others key none ∙ read)

-- inserting on the left
module _ (s s1 : Slab Node) (child : Child) (node : Node) (key : ℕ) (m : Mapping) (t : Shape) (link : Option Child) (holds : Holds s (Some child) t) (absent : tally key t ≡ 0) (read : get s child.key ≡ Some node) where
  pub absent_left : (o : Opened s child node t) → tally key o.l ≡ 0
  absent_left o = let h : tally key (Branch child.key o.l node.mapping o.r) ≡ 0 = rw o.is at absent in omega arith

  pub absent_right : (o : Opened s child node t) → tally key o.r ≡ 0
  absent_right o = let h : tally key (Branch child.key o.l node.mapping o.r) ≡ 0 = rw o.is at absent in omega arith

  pub Sides-inserted_left : (o : Opened s child node t) → Becomes s s1 (inserted key m o.l) link (inserted key m o.l) → Sides s1 child.key (record node { left = link }) (inserted key m o.l) o.r
  Sides-inserted_left o becomes =
      let whole = Branch child.key o.l node.mapping o.r in
      let none : tally key whole ≡ 0 = rw o.is at absent in
      Sides-left s s1 child node t link (inserted key m o.l) (inserted key m o.l) holds read o becomes
      (λ k some. let once : tally k whole ≤ 1 = rw o.is at (holds.once k) in let other = one_at-absent k key whole none (omega arith) in omega (arith, tally-inserted k key m o.l))
      (λ k. let once : tally k whole ≤ 1 = rw o.is at (holds.once k) in let more = once_more k key whole once none in omega (arith, tally-inserted k key m o.l))

  pub Sides-inserted_right : (o : Opened s child node t) → Becomes s s1 (inserted key m o.r) link (inserted key m o.r) → Sides s1 child.key (record node { right = link }) o.l (inserted key m o.r)
  Sides-inserted_right o becomes =
      let whole = Branch child.key o.l node.mapping o.r in
      let none : tally key whole ≡ 0 = rw o.is at absent in
      Sides-right s s1 child node t link (inserted key m o.r) (inserted key m o.r) holds read o becomes
      (λ k some. let once : tally k whole ≤ 1 = rw o.is at (holds.once k) in let other = one_at-absent k key whole none (omega arith) in omega (arith, tally-inserted k key m o.r))
      (λ k. let once : tally k whole ≤ 1 = rw o.is at (holds.once k) in let more = once_more k key whole once none in omega (arith, tally-inserted k key m o.r))

  pub Contains-inserted_left : (o : Opened s child node t) → Becomes s s1 (inserted key m o.l) link (inserted key m o.l) → ContainsKey s1 child.key
  Contains-inserted_left o becomes =
      let whole = Branch child.key o.l node.mapping o.r in
      let none : tally key whole ≡ 0 = rw o.is at absent in
      let once : tally child.key whole ≤ 1 = rw o.is at (holds.once child.key) in
      let here : one_at child.key child.key ≡ 1 = one_at-same child.key in
      let other = one_at-absent child.key key whole none (omega arith) in
      ContainsKey-beside s s1 child.key node link (inserted key m o.l) (inserted key m o.l) read becomes (omega (arith, tally-inserted child.key key m o.l))

  pub Contains-inserted_right : (o : Opened s child node t) → Becomes s s1 (inserted key m o.r) link (inserted key m o.r) → ContainsKey s1 child.key
  Contains-inserted_right o becomes =
      let whole = Branch child.key o.l node.mapping o.r in
      let none : tally key whole ≡ 0 = rw o.is at absent in
      let once : tally child.key whole ≤ 1 = rw o.is at (holds.once child.key) in
      let here : one_at child.key child.key ≡ 1 = one_at-same child.key in
      let other = one_at-absent child.key key whole none (omega arith) in
      ContainsKey-beside s s1 child.key node link (inserted key m o.r) (inserted key m o.r) read becomes (omega (arith, tally-inserted child.key key m o.r))

  pub Becomes-inserted_left : (s2 : Slab Node) (result : Option Child) → m.span.first < node.mapping.span.first
      → ((u : Shape) → Holds s node.left u → tally key u ≡ 0 → Becomes s s1 (inserted key m u) link (inserted key m u))
      → ((l r : Shape) → Sides s1 child.key (record node { left = link }) l r → Becomes s1 s2 (Branch child.key l node.mapping r) result (balanced child.key l node.mapping r))
      → Becomes s s2 (inserted key m t) result (inserted key m t)
  Becomes-inserted_left s2 result lower below above =
      let o = opened s child node t holds.leads holds.held read in
      let first = below o.l (holds_left s child node t holds read o) (absent_left o) in
      let second = above (inserted key m o.l) o.r (Sides-inserted_left o first) in
      let is : inserted key m t ≡ balanced child.key (inserted key m o.l) node.mapping o.r = ap (λ u. inserted key m u) o.is ∙ inserted-lower key m child.key o.l node.mapping o.r lower in
      let P : Shape → Type 0 = λ u. Becomes s s2 u result u in
      subst P (sym is) (record {
        holds = second.holds;
        others = λ k none. let all = tally-balanced k child.key (inserted key m o.l) node.mapping o.r in second.others k (omega arith) ∙ first.others k (omega arith);
      })

  pub Becomes-inserted_right : (s2 : Slab Node) (result : Option Child) → node.mapping.span.first ≤ m.span.first
      → ((u : Shape) → Holds s node.right u → tally key u ≡ 0 → Becomes s s1 (inserted key m u) link (inserted key m u))
      → ((l r : Shape) → Sides s1 child.key (record node { right = link }) l r → Becomes s1 s2 (Branch child.key l node.mapping r) result (balanced child.key l node.mapping r))
      → Becomes s s2 (inserted key m t) result (inserted key m t)
  Becomes-inserted_right s2 result higher below above =
      let o = opened s child node t holds.leads holds.held read in
      let first = below o.r (holds_right s child node t holds read o) (absent_right o) in
      let second = above o.l (inserted key m o.r) (Sides-inserted_right o first) in
      let is : inserted key m t ≡ balanced child.key o.l node.mapping (inserted key m o.r) = ap (λ u. inserted key m u) o.is ∙ inserted-higher key m child.key o.l node.mapping o.r higher in
      let P : Shape → Type 0 = λ u. Becomes s s2 u result u in
      subst P (sym is) (record {
        holds = second.holds;
        others = λ k none. let all = tally-balanced k child.key o.l node.mapping (inserted key m o.r) in second.others k (omega arith) ∙ first.others k (omega arith);
      })

-- a node alone
pub Becomes-inserted_leaf : (s : Slab Node) (key : ℕ) (m : Mapping) (t : Shape) → get s key ≡ Some (node_of Leaf m Leaf) → Holds s None t → Becomes s s (inserted key m t) (Some (record { key = key; height = 1 })) (inserted key m t)
Becomes-inserted_leaf s key m t leaf holds =
    let is : inserted key m t ≡ Branch key Leaf m Leaf = ap (λ u. inserted key m u) (leaf_from_link t holds.leads) ∙ inserted-leaf key m in
    let P : Shape → Type 0 = λ u. Becomes s s u (Some (record { key = key; height = 1 })) u in
    subst P (sym is) (record {
      holds = record { leads = refl; held = (leaf, tt, tt); once = λ k. one_at-most k key };
      others = λ k none. refl;
    })
  where
    one_at-most : (k key : ℕ) → one_at k key + 0 + 0 ≤ 1
    one_at-most k key =
        ⊎_elim
        (λ (same : k ≡ key). let one : one_at k key ≡ 1 = ap (λ j. one_at j key) same ∙ one_at-same key in omega arith)
        (λ (other : k ≢ key). let zero_here : one_at k key ≡ 0 = one_at-other k key other in omega arith)
        (cases_eq k key)

-- the link that inserting answers is at most one higher
pub height-inserted_link : (s s1 : Slab Node) (key : ℕ) (m : Mapping) (t : Shape) (link result : Option Child) → link ≡ link_of t → Becomes s s1 (inserted key m t) result (inserted key m t) → link_height result ≤ link_height link + 1
height-inserted_link s s1 key m t link result leads becomes =
    let before : link_height link ≡ height t = ap link_height leads ∙ link_height-link_of t in
    let after : link_height result ≡ height (inserted key m t) = ap link_height becomes.holds.leads ∙ link_height-link_of (inserted key m t) in
    omega (arith, height-inserted key m t)
