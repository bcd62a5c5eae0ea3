-- One level of removing, over the slab's states.
use Rattle.std.proofs.Common.{◌≡◌, ℕ, ◌+◌, ◌≤◌, ◌<◌, max, ◌∷◌, ◌++◌, length, length-append, Option, Some, None, refl, sym, ap, ◌∙◌, arith, is_some, subst}
use Rattle.slab.specs.Slab.{Slab, get, ContainsKey, Updates}
use Rattle.vi_bytes.specs.declared.lease.Mapping.{Mapping}
use Rattle.vi_tree.specs.declared.node.Child.{Child}
use Rattle.vi_tree.specs.declared.node.Node.{Node}
use Rattle.vi_tree.specs.Shapes.{Shape, Leaf, Branch, height, inorder, one_at, tally, link_of, link_height, node_of}
use Rattle.vi_tree.specs.Moves.{balanced, Lowest, lowest, merged, without}
use Rattle.vi_tree.specs.Held.{IsHeld, Holds, Sides, Beside, Becomes, Detaches}
use Rattle.vi_tree.proofs.ShapeLemmas.{one_at-same, link_height-link_of, tally-balanced, inorder-balanced}
use Rattle.vi_tree.proofs.MoveLemmas.{tally-without, without-lower, without-higher, without-here, without-leaf, height-without, tally-merged, inorder-merged, IsLowest, IsLowest-lowest}
use Rattle.vi_tree.proofs.HeldLemmas.{IsHeld-updates, IsHeld-beside, Opened, leaf_from_link, ContainsKey-from_IsHeld}
use Rattle.vi_tree.proofs.PathLemmas.{Sides-left, Sides-right, ContainsKey-beside}

pub lowest-leaf : (key : ℕ) (m : Mapping) (r : Shape) → lowest key Leaf m r ≡ record { key = key; mapping = m; rest = r }
unfolding lowest
lowest-leaf key m r = refl

pub lowest-branch : (key k : ℕ) (a : Shape) (x : Mapping) (b : Shape) (m : Mapping) (r : Shape) → lowest key (Branch k a x b) m r ≡ record { key = (lowest k a x b).key; mapping = (lowest k a x b).mapping; rest = balanced key (lowest k a x b).rest m r }
unfolding lowest
lowest-branch key k a x b m r = refl

pub merged-leaf : (l : Shape) → merged l Leaf ≡ l
unfolding merged
merged-leaf l = refl

pub merged-branch : (l : Shape) (k : ℕ) (a : Shape) (x : Mapping) (b : Shape) → merged l (Branch k a x b) ≡ balanced (lowest k a x b).key l (lowest k a x b).mapping (lowest k a x b).rest
unfolding merged
merged-branch l k a x b = refl

-- the branch behind a link
pub record BranchOf (child : Child) (t : Shape) : Type 0 where
  pub a : Shape
  pub x : Mapping
  pub b : Shape
  pub is : t ≡ Branch child.key a x b
  pub high : child.height ≡ height t

pub branch_of : (child : Child) (t : Shape) → Some child ≡ link_of t → BranchOf child t
branch_of child Leaf leads = absurd (cc)
branch_of child (Branch key a x b) leads =
    let same : child ≡ record { key = key; height = max (height a) (height b) + 1 } = cc in
    let here : child.key ≡ key = ap (λ c. c.key) same in
    record { a = a; x = x; b = b; is = rw here refl; high = ap (λ c. c.height) same }

-- the node of the branch
pub node_read : (s : Slab Node) (key : ℕ) (node : Node) (l : Shape) (m : Mapping) (r : Shape) → IsHeld s (Branch key l m r) → get s key ≡ Some node → node ≡ node_of l m r
node_read s key node l m r held read = let there : get s key ≡ Some (node_of l m r) = held.0 in cc

-- a branch with nothing on its left
pub Detaches-leaf : (s : Slab Node) (child : Child) (node : Node) (l : Shape) (m : Mapping) (r : Shape) → Holds s (Some child) (Branch child.key l m r) → get s child.key ≡ Some node → node.left ≡ None → Detaches s s child.key node.mapping node.right (lowest child.key l m r)
Detaches-leaf s child node l m r holds read none =
    let same = node_read s child.key node l m r holds.held read in
    let leaf : l ≡ Leaf = leaf_from_link l (sym none ∙ ap (λ n. n.left) same) in
    let is : lowest child.key l m r ≡ record { key = child.key; mapping = m; rest = r } = ap (λ u. lowest child.key u m r) leaf ∙ lowest-leaf child.key m r in
    let P : Lowest → Type 0 = λ low. Detaches s s child.key node.mapping node.right low in
    subst P (sym is) (record {
      key_is = refl;
      mapping_is = ap (λ n. n.mapping) same;
      becomes = record {
        holds = record { leads = ap (λ n. n.right) same; held = holds.held.2; once = λ k. let o = holds.once k in omega arith };
        others = λ k none. refl;
      };
    })

-- a branch with a tree on its left, which lost its lowest mapping
module _ (s s1 : Slab Node) (child : Child) (node : Node) (left : Child) (l : Shape) (m : Mapping) (r : Shape) (key : ℕ) (mapping : Mapping) (rest : Option Child) (holds : Holds s (Some child) (Branch child.key l m r)) (read : get s child.key ≡ Some node) (leads : node.left ≡ Some left) where
  pub leads_below : Some left ≡ link_of l
  leads_below = sym leads ∙ ap (λ n. n.left) (node_read s child.key node l m r holds.held read)

  pub holds_below : (b : BranchOf left l) → Holds s (Some left) (Branch left.key b.a b.x b.b)
  holds_below b = record {
    leads = leads_below ∙ ap link_of b.is;
    held = let P : Shape → Type 0 = λ u. IsHeld s u in subst P b.is holds.held.1;
    once = λ k. let o = holds.once k in let same : tally k l ≡ tally k (Branch left.key b.a b.x b.b) = ap (λ u. tally k u) b.is in omega arith;
  }

  pub Sides-detached : (b : BranchOf left l) → Detaches s s1 key mapping rest (lowest left.key b.a b.x b.b) → Sides s1 child.key (record node { left = rest }) (lowest left.key b.a b.x b.b).rest r
  Sides-detached b first =
      let low = lowest left.key b.a b.x b.b in
      let law : IsLowest low (Branch left.key b.a b.x b.b) = IsLowest-lowest left.key b.a b.x b.b in
      record {
        left = first.becomes.holds.leads;
        right = ap (λ n. n.right) (node_read s child.key node l m r holds.held read);
        left_held = first.becomes.holds.held;
        right_held = IsHeld-beside first.becomes r holds.held.2 (λ k some. let o = holds.once k in let same : tally k l ≡ tally k (Branch left.key b.a b.x b.b) = ap (λ u. tally k u) b.is in omega (arith, law.count k));
        once = λ k. let o = holds.once k in let same : tally k l ≡ tally k (Branch left.key b.a b.x b.b) = ap (λ u. tally k u) b.is in omega (arith, law.count k);
      }

  pub Contains-detached : (b : BranchOf left l) → Detaches s s1 key mapping rest (lowest left.key b.a b.x b.b) → ContainsKey s1 child.key
  Contains-detached b first =
      let low = lowest left.key b.a b.x b.b in
      let law : IsLowest low (Branch left.key b.a b.x b.b) = IsLowest-lowest left.key b.a b.x b.b in
      let here : one_at child.key child.key ≡ 1 = one_at-same child.key in
      let o = holds.once child.key in
      let same : tally child.key l ≡ tally child.key (Branch left.key b.a b.x b.b) = ap (λ u. tally child.key u) b.is in
      ContainsKey-beside s s1 child.key node rest low.rest low.rest read first.becomes (omega (arith, law.count child.key))

  pub Detaches-below : (s2 : Slab Node) (result : Option Child)
      → ((a : Shape) (x : Mapping) (b : Shape) → Holds s (Some left) (Branch left.key a x b) → Detaches s s1 key mapping rest (lowest left.key a x b))
      → ((l r : Shape) → Sides s1 child.key (record node { left = rest }) l r → Becomes s1 s2 (Branch child.key l node.mapping r) result (balanced child.key l node.mapping r))
      → Detaches s s2 key mapping result (lowest child.key l m r)
  Detaches-below s2 result below above =
      let b = branch_of left l leads_below in
      let low = lowest left.key b.a b.x b.b in
      let first = below b.a b.x b.b (holds_below b) in
      let second = above low.rest r (Sides-detached b first) in
      let mapping_same : node.mapping ≡ m = ap (λ n. n.mapping) (node_read s child.key node l m r holds.held read) in
      let is : lowest child.key l m r ≡ record { key = low.key; mapping = low.mapping; rest = balanced child.key low.rest node.mapping r } =
      ap (λ u. lowest child.key u m r) b.is ∙ lowest-branch child.key left.key b.a b.x b.b m r ∙ ap (λ (x : Mapping). record { key = low.key; mapping = low.mapping; rest = balanced child.key low.rest x r }) (sym mapping_same) in
      let P : Lowest → Type 0 = λ low. Detaches s s2 key mapping result low in
      subst P (sym is) (record {
        key_is = first.key_is;
        mapping_is = first.mapping_is;
        becomes = record {
          holds = second.holds;
          others = λ k none. let all = tally-balanced k child.key low.rest node.mapping r in second.others k (omega arith) ∙ first.becomes.others k (omega arith);
        };
      })

-- how high the rest is
pub height-detached : (s s1 : Slab Node) (child : Child) (l : Shape) (m : Mapping) (r : Shape) (key : ℕ) (mapping : Mapping) (rest : Option Child) → Holds s (Some child) (Branch child.key l m r) → Detaches s s1 key mapping rest (lowest child.key l m r) → link_height rest ≤ child.height
height-detached s s1 child l m r key mapping rest holds detaches =
    let before : child.height ≡ height (Branch child.key l m r) = ap link_height holds.leads in
    let low = lowest child.key l m r in
    let after : link_height rest ≡ height low.rest = ap link_height detaches.becomes.holds.leads ∙ link_height-link_of low.rest in
    omega (arith, (IsLowest-lowest child.key l m r).high)

-- two trees of which the second is empty
pub Becomes-merged_leaf : (s : Slab Node) (left : Option Child) (l r : Shape) → Beside s left None l r → Becomes s s (merged l r) left (merged l r)
Becomes-merged_leaf s left l r beside =
    let leaf : r ≡ Leaf = leaf_from_link r beside.leads_right in
    let is : merged l r ≡ l = ap (λ u. merged l u) leaf ∙ merged-leaf l in
    let P : Shape → Type 0 = λ u. Becomes s s u left u in
    subst P (sym is) (record {
      holds = record { leads = beside.leads_left; held = beside.left_held; once = λ k. let o = beside.once k in omega arith };
      others = λ k none. refl;
    })

-- two trees of which the second lost its lowest mapping, which becomes the top
module _ (s s1 : Slab Node) (left : Option Child) (child : Child) (l r : Shape) (key : ℕ) (mapping : Mapping) (rest : Option Child) (beside : Beside s left (Some child) l r) where
  pub holds_beside : (b : BranchOf child r) → Holds s (Some child) (Branch child.key b.a b.x b.b)
  holds_beside b = record {
    leads = beside.leads_right ∙ ap link_of b.is;
    held = let P : Shape → Type 0 = λ u. IsHeld s u in subst P b.is beside.right_held;
    once = λ k. let o = beside.once k in let same : tally k r ≡ tally k (Branch child.key b.a b.x b.b) = ap (λ u. tally k u) b.is in omega arith;
  }

  pub Sides-merged : (b : BranchOf child r) → Detaches s s1 key mapping rest (lowest child.key b.a b.x b.b) → Sides s1 key (record { mapping = mapping; left = left; right = rest }) l (lowest child.key b.a b.x b.b).rest
  Sides-merged b first =
      let low = lowest child.key b.a b.x b.b in
      let law : IsLowest low (Branch child.key b.a b.x b.b) = IsLowest-lowest child.key b.a b.x b.b in
      record {
        left = beside.leads_left;
        right = first.becomes.holds.leads;
        left_held = IsHeld-beside first.becomes l beside.left_held (λ k some. let o = beside.once k in let same : tally k r ≡ tally k (Branch child.key b.a b.x b.b) = ap (λ u. tally k u) b.is in omega (arith, law.count k));
        right_held = first.becomes.holds.held;
        once = λ k.
            let o = beside.once k in
            let same : tally k r ≡ tally k (Branch child.key b.a b.x b.b) = ap (λ u. tally k u) b.is in
            let key_same : one_at k key ≡ one_at k low.key = ap (λ j. one_at k j) first.key_is in
            omega (arith, law.count k);
      }

  pub Contains-merged : (b : BranchOf child r) → Detaches s s1 key mapping rest (lowest child.key b.a b.x b.b) → ContainsKey s1 key
  Contains-merged b first =
      let low = lowest child.key b.a b.x b.b in
      let whole = Branch child.key b.a b.x b.b in
      let law : IsLowest low whole = IsLowest-lowest child.key b.a b.x b.b in
      let here : one_at low.key low.key ≡ 1 = one_at-same low.key in
      let held : IsHeld s whole = (holds_beside b).held in
      let once : tally low.key whole ≤ 1 = (holds_beside b).once low.key in
      let there : ContainsKey s low.key = ContainsKey-from_IsHeld s whole low.key held (omega (arith, law.count low.key)) in
      let stays : get s1 low.key ≡ get s low.key = first.becomes.others low.key (omega (arith, law.count low.key)) in
      ap (λ j. is_some (get s1 j)) first.key_is ∙ ap is_some stays ∙ there

  pub Becomes-merged_branch : (s2 : Slab Node) (result : Option Child)
      → ((a : Shape) (x : Mapping) (b : Shape) → Holds s (Some child) (Branch child.key a x b) → Detaches s s1 key mapping rest (lowest child.key a x b))
      → ((l r : Shape) → Sides s1 key (record { mapping = mapping; left = left; right = rest }) l r → Becomes s1 s2 (Branch key l mapping r) result (balanced key l mapping r))
      → Becomes s s2 (merged l r) result (merged l r)
  Becomes-merged_branch s2 result below above =
      let b = branch_of child r beside.leads_right in
      let low = lowest child.key b.a b.x b.b in
      let first = below b.a b.x b.b (holds_beside b) in
      let second = above l low.rest (Sides-merged b first) in
      let is : merged l r ≡ balanced key l mapping low.rest =
      ap (λ u. merged l u) b.is ∙ merged-branch l child.key b.a b.x b.b ∙ ap (λ k. balanced k l low.mapping low.rest) (sym first.key_is) ∙ ap (λ (x : Mapping). balanced key l x low.rest) (sym first.mapping_is) in
      let P : Shape → Type 0 = λ u. Becomes s s2 u result u in
      subst P (sym is) (record {
        holds = second.holds;
        others = λ k none. let all = tally-balanced k key l mapping low.rest in second.others k (omega arith) ∙ first.becomes.others k (omega arith);
      })

-- removing on one side of a node that was read
module _ (s s1 : Slab Node) (child : Child) (node : Node) (first : ℕ) (t : Shape) (link : Option Child) (holds : Holds s (Some child) t) (read : get s child.key ≡ Some node) (o : Opened s child node t) where
  pub Sides-without_left : Becomes s s1 o.l link (without first o.l) → Sides s1 child.key (record node { left = link }) (without first o.l) o.r
  Sides-without_left becomes =
      Sides-left s s1 child node t link o.l (without first o.l) holds read o becomes
      (λ k some. let once = rw o.is at (holds.once k) in omega arith)
      (λ k. let once = rw o.is at (holds.once k) in omega (arith, tally-without k first o.l))

  pub Sides-without_right : Becomes s s1 o.r link (without first o.r) → Sides s1 child.key (record node { right = link }) o.l (without first o.r)
  Sides-without_right becomes =
      Sides-right s s1 child node t link o.r (without first o.r) holds read o becomes
      (λ k some. let once = rw o.is at (holds.once k) in omega arith)
      (λ k. let once = rw o.is at (holds.once k) in omega (arith, tally-without k first o.r))

  pub Contains-without_left : Becomes s s1 o.l link (without first o.l) → ContainsKey s1 child.key
  Contains-without_left becomes =
      let here : one_at child.key child.key ≡ 1 = one_at-same child.key in
      let once = rw o.is at (holds.once child.key) in
      ContainsKey-beside s s1 child.key node link o.l (without first o.l) read becomes (omega arith)

  pub Contains-without_right : Becomes s s1 o.r link (without first o.r) → ContainsKey s1 child.key
  Contains-without_right becomes =
      let here : one_at child.key child.key ≡ 1 = one_at-same child.key in
      let once = rw o.is at (holds.once child.key) in
      ContainsKey-beside s s1 child.key node link o.r (without first o.r) read becomes (omega arith)

  pub Becomes-without_left : (s2 : Slab Node) (result : Option Child) → first < node.mapping.span.first → Becomes s s1 o.l link (without first o.l)
      → ((l r : Shape) → Sides s1 child.key (record node { left = link }) l r → Becomes s1 s2 (Branch child.key l node.mapping r) result (balanced child.key l node.mapping r))
      → Becomes s s2 t result (without first t)
  Becomes-without_left s2 result lower below above =
      let second = above (without first o.l) o.r (Sides-without_left below) in
      let is : without first t ≡ balanced child.key (without first o.l) node.mapping o.r = ap (λ u. without first u) o.is ∙ without-lower first child.key o.l node.mapping o.r lower in
      let P : Shape → Type 0 = λ u. Becomes s s2 t result u in
      subst P (sym is) (record {
        holds = second.holds;
        others = λ k none. let all = rw o.is at none in second.others k (omega (arith, tally-without k first o.l)) ∙ below.others k (omega arith);
      })

  pub Becomes-without_right : (s2 : Slab Node) (result : Option Child) → node.mapping.span.first < first → Becomes s s1 o.r link (without first o.r)
      → ((l r : Shape) → Sides s1 child.key (record node { right = link }) l r → Becomes s1 s2 (Branch child.key l node.mapping r) result (balanced child.key l node.mapping r))
      → Becomes s s2 t result (without first t)
  Becomes-without_right s2 result higher below above =
      let second = above o.l (without first o.r) (Sides-without_right below) in
      let is : without first t ≡ balanced child.key o.l node.mapping (without first o.r) = ap (λ u. without first u) o.is ∙ without-higher first child.key o.l node.mapping o.r higher in
      let P : Shape → Type 0 = λ u. Becomes s s2 t result u in
      subst P (sym is) (record {
        holds = second.holds;
        others = λ k none. let all = rw o.is at none in second.others k (omega (arith, tally-without k first o.r)) ∙ below.others k (omega arith);
      })

  -- the node itself is taken out, and its sides are put together
  pub Beside-taken : Updates s s1 child.key None → Beside s1 node.left node.right o.l o.r
  Beside-taken updates =
      let here : one_at child.key child.key ≡ 1 = one_at-same child.key in
      let once_here = rw o.is at (holds.once child.key) in
      record {
        leads_left = o.left;
        leads_right = o.right;
        left_held = IsHeld-updates s s1 child.key None o.l updates (omega arith) o.l_held;
        right_held = IsHeld-updates s s1 child.key None o.r updates (omega arith) o.r_held;
        once = λ k. let once = rw o.is at (holds.once k) in omega arith;
      }

  pub Becomes-without_here : (s2 : Slab Node) (result : Option Child) → node.mapping.span.first ≤ first → first ≤ node.mapping.span.first → Updates s s1 child.key None
      → ((l r : Shape) → Beside s1 node.left node.right l r → Becomes s1 s2 (merged l r) result (merged l r))
      → Becomes s s2 t result (without first t)
  Becomes-without_here s2 result up down updates above =
      let second = above o.l o.r (Beside-taken updates) in
      let is : without first t ≡ merged o.l o.r = ap (λ u. without first u) o.is ∙ without-here first child.key o.l node.mapping o.r up down in
      let P : Shape → Type 0 = λ u. Becomes s s2 t result u in
      subst P (sym is) (record {
        holds = second.holds;
        others = λ k none.
            let all = rw o.is at none in
            second.others k (omega (arith, tally-merged k o.l o.r)) ∙ updates.others k (λ (same : k ≡ child.key). let one : one_at k child.key ≡ 1 = ap (λ j. one_at j child.key) same ∙ one_at-same child.key in absurd (omega arith));
      })

pub Becomes-without_leaf : (s : Slab Node) (first : ℕ) (t : Shape) → Holds s None t → Becomes s s t None (without first t)
Becomes-without_leaf s first t holds =
    let leaf = leaf_from_link t holds.leads in
    let is : without first t ≡ t = ap (λ u. without first u) leaf ∙ without-leaf first ∙ sym leaf in
    let P : Shape → Type 0 = λ u. Becomes s s t None u in
    subst P (sym is) (record { holds = holds; others = λ k none. refl })

pub height-without_link : (s s1 : Slab Node) (first : ℕ) (t : Shape) (link result : Option Child) → link ≡ link_of t → Becomes s s1 t result (without first t) → link_height result ≤ link_height link
height-without_link s s1 first t link result leads becomes =
    let before : link_height link ≡ height t = ap link_height leads ∙ link_height-link_of t in
    let after : link_height result ≡ height (without first t) = ap link_height becomes.holds.leads ∙ link_height-link_of (without first t) in
    omega (arith, height-without first t)

-- how many mappings are left
size_of : (l : Shape) (m : Mapping) (r : Shape) → length (inorder l ++ m ∷ inorder r) ≡ length (inorder l) + length (inorder r) + 1
size_of l m r = omega (arith, length-append (inorder l) (m ∷ inorder r))

pub length-without_leaf : (first : ℕ) (t : Shape) → None ≡ link_of t → length (inorder (without first t)) ≡ length (inorder t)
length-without_leaf first t leads = let leaf = leaf_from_link t leads in ap (λ u. length (inorder u)) (ap (λ u. without first u) leaf ∙ without-leaf first ∙ sym leaf)

pub length-without_left : (first key : ℕ) (t l : Shape) (m : Mapping) (r : Shape) → t ≡ Branch key l m r → first < m.span.first → length (inorder (without first t)) + length (inorder l) ≡ length (inorder t) + length (inorder (without first l))
length-without_left first key t l m r is lower =
    let new : inorder (without first t) ≡ inorder (without first l) ++ m ∷ inorder r = ap (λ u. inorder (without first u)) is ∙ ap inorder (without-lower first key l m r lower) ∙ inorder-balanced key (without first l) m r in
    omega (arith, ap length new, size_of (without first l) m r, ap (λ u. length (inorder u)) is, size_of l m r)

pub length-without_right : (first key : ℕ) (t l : Shape) (m : Mapping) (r : Shape) → t ≡ Branch key l m r → m.span.first < first → length (inorder (without first t)) + length (inorder r) ≡ length (inorder t) + length (inorder (without first r))
length-without_right first key t l m r is higher =
    let new : inorder (without first t) ≡ inorder l ++ m ∷ inorder (without first r) = ap (λ u. inorder (without first u)) is ∙ ap inorder (without-higher first key l m r higher) ∙ inorder-balanced key l m (without first r) in
    omega (arith, ap length new, size_of l m (without first r), ap (λ u. length (inorder u)) is, size_of l m r)

pub length-without_here : (first key : ℕ) (t l : Shape) (m : Mapping) (r : Shape) → t ≡ Branch key l m r → m.span.first ≤ first → first ≤ m.span.first → length (inorder (without first t)) + 1 ≡ length (inorder t)
length-without_here first key t l m r is up down =
    let new : inorder (without first t) ≡ inorder l ++ inorder r = ap (λ u. inorder (without first u)) is ∙ ap inorder (without-here first key l m r up down) ∙ inorder-merged l r in
    omega (arith, ap length new, length-append (inorder l) (inorder r), ap (λ u. length (inorder u)) is, size_of l m r)
