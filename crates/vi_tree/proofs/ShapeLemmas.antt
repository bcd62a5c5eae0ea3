-- Keys, mappings and heights of the shapes that the moves make.
use Rattle.std.proofs.Common.{◌≡◌, ◌≢◌, ℕ, ◌+◌, ◌≤◌, ◌<◌, max, Bool, true, false, cond, nat_lt, ◌∷◌, ◌++◌, refl, ap, ◌⊎◌, inl, inr, append_assoc, arith}
use Rattle.std.proofs.lemmas.Bool.{ltb-true, ltb-false, eq-eqb, ne_eqb}
use Rattle.vi_bytes.specs.declared.lease.Mapping.{Mapping}
use Rattle.vi_ranges.proofs.MappingLemmas.{by_test}
use Rattle.vi_tree.specs.Shapes.{Shape, Leaf, Branch, height, inorder, one_at, tally, IsBalanced, link_of, link_height}
use Rattle.vi_tree.specs.Moves.{turned_right, turned_left, lifted_left, lifted_right, leans_right, leans_left, raised_left, raised_right, balanced}

-- a key stands at itself
pub one_at-same : (k : ℕ) → one_at k k ≡ 1
unfolding one_at
one_at-same k = ap (λ b. cond b 1 0) (eq-eqb k k refl)

pub one_at-other : (k key : ℕ) → k ≢ key → one_at k key ≡ 0
unfolding one_at
one_at-other k key other = ap (λ b. cond b 1 0) (ne_eqb k key other)

-- a link tells the height of its tree
pub link_height-link_of : (t : Shape) → link_height (link_of t) ≡ height t
link_height-link_of Leaf = refl
link_height-link_of (Branch key l m r) = refl

-- what stays in order and what is counted whichever side is raised
record Same (u : Shape) (key : ℕ) (l : Shape) (m : Mapping) (r : Shape) : Type 0 where
  order : inorder u ≡ inorder l ++ m ∷ inorder r
  count : (k : ℕ) → tally k u ≡ one_at k key + tally k l + tally k r

same_branch : (key : ℕ) (l : Shape) (m : Mapping) (r : Shape) → Same (Branch key l m r) key l m r
same_branch key l m r = record { order = refl; count = λ k. refl }

same_turned_right : (key : ℕ) (l : Shape) (m : Mapping) (r : Shape) → Same (turned_right key l m r) key l m r
same_turned_right key Leaf m r = same_branch key Leaf m r
same_turned_right key (Branch j a x b) m r = record { order = simp append_assoc; count = λ k. omega arith }

same_turned_left : (key : ℕ) (l : Shape) (m : Mapping) (r : Shape) → Same (turned_left key l m r) key l m r
same_turned_left key l m Leaf = same_branch key l m Leaf
same_turned_left key l m (Branch j a x b) = record { order = simp append_assoc; count = λ k. omega arith }

same_lifted_left : (key : ℕ) (l : Shape) (m : Mapping) (r : Shape) → Same (lifted_left key l m r) key l m r
same_lifted_left key Leaf m r = same_branch key Leaf m r
same_lifted_left key (Branch j a x Leaf) m r = record { order = simp append_assoc; count = λ k. omega arith }
same_lifted_left key (Branch j a x (Branch i b y c)) m r = record { order = simp append_assoc; count = λ k. omega arith }

same_lifted_right : (key : ℕ) (l : Shape) (m : Mapping) (r : Shape) → Same (lifted_right key l m r) key l m r
same_lifted_right key l m Leaf = same_branch key l m Leaf
same_lifted_right key l m (Branch j Leaf x b) = record { order = simp append_assoc; count = λ k. omega arith }
same_lifted_right key l m (Branch j (Branch i a y c) x b) = record { order = simp append_assoc; count = λ k. omega arith }

same_balanced : (key : ℕ) (l : Shape) (m : Mapping) (r : Shape) → Same (balanced key l m r) key l m r
unfolding balanced
same_balanced key l m r =
    let P : Shape → Type 0 = λ u. Same u key l m r in
    let left : P (raised_left key l m r) = elim (leans_right l) as (λ b. P (cond b (lifted_left key l m r) (turned_right key l m r))) [ true ↦ same_lifted_left key l m r | false ↦ same_turned_right key l m r ] in
    let right : P (raised_right key l m r) = elim (leans_left r) as (λ b. P (cond b (lifted_right key l m r) (turned_left key l m r))) [ true ↦ same_lifted_right key l m r | false ↦ same_turned_left key l m r ] in
    let other : P (cond (nat_lt (height l + 1) (height r)) (raised_right key l m r) (Branch key l m r)) = elim (nat_lt (height l + 1) (height r)) as (λ b. P (cond b (raised_right key l m r) (Branch key l m r))) [ true ↦ right | false ↦ same_branch key l m r ] in
    elim (nat_lt (height r + 1) (height l)) as (λ b. P (cond b (raised_left key l m r) (cond (nat_lt (height l + 1) (height r)) (raised_right key l m r) (Branch key l m r)))) [ true ↦ left | false ↦ other ]

pub inorder-balanced : (key : ℕ) (l : Shape) (m : Mapping) (r : Shape) → inorder (balanced key l m r) ≡ inorder l ++ m ∷ inorder r
inorder-balanced key l m r = (same_balanced key l m r).order

pub tally-balanced : (k key : ℕ) (l : Shape) (m : Mapping) (r : Shape) → tally k (balanced key l m r) ≡ one_at k key + tally k l + tally k r
tally-balanced k key l m r = (same_balanced key l m r).count k

-- how the height follows from those of the sides, which differ by at most 2
pub record Settles (u l r : Shape) : Type 0 where
  pub is_balanced : IsBalanced u
  pub at_least : max (height l) (height r) ≤ height u
  pub at_most : height u ≤ max (height l) (height r) + 1
  pub even : (height u ≡ max (height l) (height r) + 1) ⊎ ((height r + 1 < height l) ⊎ (height l + 1 < height r))

settles_left : (key : ℕ) (l : Shape) (m : Mapping) (r : Shape) → IsBalanced l → IsBalanced r → height l ≡ height r + 2 → Settles (raised_left key l m r) l r
settles_left key Leaf m r lb rb higher = absurd (omega arith)
settles_left key (Branch j a x Leaf) m r lb rb higher =
    let P : Bool → Type 0 = λ t. Settles (cond t (lifted_left key (Branch j a x Leaf) m r) (turned_right key (Branch j a x Leaf) m r)) (Branch j a x Leaf) r in
    let b_balanced : IsBalanced Leaf = tt in
    by_test (nat_lt (height a) 0) P
    (λ (t : nat_lt (height a) 0 ≡ true). let lt : height a < 0 = ltb-true (height a) 0 t in absurd (omega arith))
    (λ (t : nat_lt (height a) 0 ≡ false). record {
      is_balanced = (omega arith, omega arith, lb.2, (omega arith, omega arith, b_balanced, rb));
      at_least = omega arith;
      at_most = omega arith;
      even = inr (inl (omega arith));
    })
settles_left key (Branch j a x (Branch i b y c)) m r lb rb higher =
    let inner = Branch i b y c in
    let P : Bool → Type 0 = λ t. Settles (cond t (lifted_left key (Branch j a x inner) m r) (turned_right key (Branch j a x inner) m r)) (Branch j a x inner) r in
    let inner_balanced : IsBalanced inner = lb.3 in
    let even_j : height a ≤ height inner + 1 = lb.0 in
    let even_j' : height inner ≤ height a + 1 = lb.1 in
    let even_i : height b ≤ height c + 1 = inner_balanced.0 in
    let even_i' : height c ≤ height b + 1 = inner_balanced.1 in
    by_test (nat_lt (height a) (height inner)) P
    (λ (t : nat_lt (height a) (height inner) ≡ true). let lt : height a < height inner = ltb-true (height a) (height inner) t in record {
      is_balanced = (omega arith, omega arith, (omega arith, omega arith, lb.2, inner_balanced.2), (omega arith, omega arith, inner_balanced.3, rb));
      at_least = omega arith;
      at_most = omega arith;
      even = inr (inl (omega arith));
    })
    (λ (t : nat_lt (height a) (height inner) ≡ false). let le : height inner ≤ height a = ltb-false (height a) (height inner) t in record {
      is_balanced = (omega arith, omega arith, lb.2, (omega arith, omega arith, inner_balanced, rb));
      at_least = omega arith;
      at_most = omega arith;
      even = inr (inl (omega arith));
    })

settles_right : (key : ℕ) (l : Shape) (m : Mapping) (r : Shape) → IsBalanced l → IsBalanced r → height r ≡ height l + 2 → Settles (raised_right key l m r) l r
settles_right key l m Leaf lb rb higher = absurd (omega arith)
settles_right key l m (Branch j Leaf x b) lb rb higher =
    let P : Bool → Type 0 = λ t. Settles (cond t (lifted_right key l m (Branch j Leaf x b)) (turned_left key l m (Branch j Leaf x b))) l (Branch j Leaf x b) in
    let a_balanced : IsBalanced Leaf = tt in
    by_test (nat_lt (height b) 0) P
    (λ (t : nat_lt (height b) 0 ≡ true). let lt : height b < 0 = ltb-true (height b) 0 t in absurd (omega arith))
    (λ (t : nat_lt (height b) 0 ≡ false). record {
      is_balanced = (omega arith, omega arith, (omega arith, omega arith, lb, a_balanced), rb.3);
      at_least = omega arith;
      at_most = omega arith;
      even = inr (inr (omega arith));
    })
settles_right key l m (Branch j (Branch i a y c) x b) lb rb higher =
    let inner = Branch i a y c in
    let P : Bool → Type 0 = λ t. Settles (cond t (lifted_right key l m (Branch j inner x b)) (turned_left key l m (Branch j inner x b))) l (Branch j inner x b) in
    let inner_balanced : IsBalanced inner = rb.2 in
    let even_j : height inner ≤ height b + 1 = rb.0 in
    let even_j' : height b ≤ height inner + 1 = rb.1 in
    let even_i : height a ≤ height c + 1 = inner_balanced.0 in
    let even_i' : height c ≤ height a + 1 = inner_balanced.1 in
    by_test (nat_lt (height b) (height inner)) P
    (λ (t : nat_lt (height b) (height inner) ≡ true). let lt : height b < height inner = ltb-true (height b) (height inner) t in record {
      is_balanced = (omega arith, omega arith, (omega arith, omega arith, lb, inner_balanced.2), (omega arith, omega arith, inner_balanced.3, rb.3));
      at_least = omega arith;
      at_most = omega arith;
      even = inr (inr (omega arith));
    })
    (λ (t : nat_lt (height b) (height inner) ≡ false). let le : height inner ≤ height b = ltb-false (height b) (height inner) t in record {
      is_balanced = (omega arith, omega arith, (omega arith, omega arith, lb, inner_balanced), rb.3);
      at_least = omega arith;
      at_most = omega arith;
      even = inr (inr (omega arith));
    })

-- sides that differ by at most 2 make a balanced tree
pub Settles-balanced : (key : ℕ) (l : Shape) (m : Mapping) (r : Shape) → IsBalanced l → IsBalanced r → height l ≤ height r + 2 → height r ≤ height l + 2 → Settles (balanced key l m r) l r
unfolding balanced
Settles-balanced key l m r lb rb left right =
    let P : Shape → Type 0 = λ u. Settles u l r in
    let other = cond (nat_lt (height l + 1) (height r)) (raised_right key l m r) (Branch key l m r) in
    by_test (nat_lt (height r + 1) (height l)) (λ t. P (cond t (raised_left key l m r) other))
    (λ (t : nat_lt (height r + 1) (height l) ≡ true). let lt : height r + 1 < height l = ltb-true (height r + 1) (height l) t in settles_left key l m r lb rb (omega arith))
    (λ (t : nat_lt (height r + 1) (height l) ≡ false).
    let le : height l ≤ height r + 1 = ltb-false (height r + 1) (height l) t in
    by_test (nat_lt (height l + 1) (height r)) (λ t. P (cond t (raised_right key l m r) (Branch key l m r)))
    (λ (t' : nat_lt (height l + 1) (height r) ≡ true). let lt : height l + 1 < height r = ltb-true (height l + 1) (height r) t' in settles_right key l m r lb rb (omega arith))
    (λ (t' : nat_lt (height l + 1) (height r) ≡ false). let le' : height r ≤ height l + 1 = ltb-false (height l + 1) (height r) t' in record {
      is_balanced = (omega arith, omega arith, lb, rb);
      at_least = omega arith;
      at_most = omega arith;
      even = inl (omega arith);
    }))

low_left : (key : ℕ) (l : Shape) (m : Mapping) (r : Shape) → height r + 1 < height l → height (raised_left key l m r) ≤ max (height l) (height r) + 1
low_left key Leaf m r higher = absurd (omega arith)
low_left key (Branch j a x Leaf) m r higher = elim (nat_lt (height a) 0) as (λ t. height (cond t (lifted_left key (Branch j a x Leaf) m r) (turned_right key (Branch j a x Leaf) m r)) ≤ max (height (Branch j a x Leaf)) (height r) + 1) [ true ↦ omega arith | false ↦ omega arith ]
low_left key (Branch j a x (Branch i b y c)) m r higher =
    let l = Branch j a x (Branch i b y c) in
    elim (nat_lt (height a) (height (Branch i b y c))) as (λ t. height (cond t (lifted_left key l m r) (turned_right key l m r)) ≤ max (height l) (height r) + 1) [ true ↦ omega arith | false ↦ omega arith ]

low_right : (key : ℕ) (l : Shape) (m : Mapping) (r : Shape) → height l + 1 < height r → height (raised_right key l m r) ≤ max (height l) (height r) + 1
low_right key l m Leaf higher = absurd (omega arith)
low_right key l m (Branch j Leaf x b) higher = elim (nat_lt (height b) 0) as (λ t. height (cond t (lifted_right key l m (Branch j Leaf x b)) (turned_left key l m (Branch j Leaf x b))) ≤ max (height l) (height (Branch j Leaf x b)) + 1) [ true ↦ omega arith | false ↦ omega arith ]
low_right key l m (Branch j (Branch i a y c) x b) higher =
    let r = Branch j (Branch i a y c) x b in
    elim (nat_lt (height b) (height (Branch i a y c))) as (λ t. height (cond t (lifted_right key l m r) (turned_left key l m r)) ≤ max (height l) (height r) + 1) [ true ↦ omega arith | false ↦ omega arith ]

-- raising a side makes no tree higher than the branch would be
pub height-balanced : (key : ℕ) (l : Shape) (m : Mapping) (r : Shape) → height (balanced key l m r) ≤ max (height l) (height r) + 1
unfolding balanced
height-balanced key l m r =
    let P : Shape → Type 0 = λ u. height u ≤ max (height l) (height r) + 1 in
    let other = cond (nat_lt (height l + 1) (height r)) (raised_right key l m r) (Branch key l m r) in
    by_test (nat_lt (height r + 1) (height l)) (λ t. P (cond t (raised_left key l m r) other))
    (λ (t : nat_lt (height r + 1) (height l) ≡ true). low_left key l m r (ltb-true (height r + 1) (height l) t))
    (λ (t : nat_lt (height r + 1) (height l) ≡ false).
    by_test (nat_lt (height l + 1) (height r)) (λ t. P (cond t (raised_right key l m r) (Branch key l m r)))
    (λ (t' : nat_lt (height l + 1) (height r) ≡ true). low_right key l m r (ltb-true (height l + 1) (height r) t'))
    (λ (t' : nat_lt (height l + 1) (height r) ≡ false). omega arith))
