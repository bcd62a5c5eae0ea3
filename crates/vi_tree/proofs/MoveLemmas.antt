-- What inserting and removing make of a shape.
use Rattle.std.proofs.Common.{◌≡◌, ℕ, ◌+◌, ◌≤◌, ◌<◌, max, true, false, cond, nat_lt, ◌∷◌, ◌++◌, refl, sym, ap, ◌∙◌, append-nil, arith}
use Rattle.std.proofs.lemmas.Bool.{ltb-true, ltb-false, lt-ltb, le-ltb}
use Rattle.vi_bytes.specs.declared.lease.Mapping.{Mapping}
use Rattle.vi_bytes.specs.Mappings.{AreApart, with_mapping}
use Rattle.vi_ranges.proofs.MappingLemmas.{by_test}
use Rattle.vi_tree.specs.Shapes.{Shape, Leaf, Branch, height, inorder, one_at, tally, IsBalanced}
use Rattle.vi_tree.specs.Moves.{balanced, inserted, Lowest, lowest, merged, without}
use Rattle.vi_tree.specs.Trees.{others_than}
use Rattle.vi_tree.proofs.ShapeLemmas.{inorder-balanced, tally-balanced, height-balanced, Settles-balanced}
use Rattle.vi_tree.proofs.ListLemmas.{AreApart-left, AreApart-right, AreBefore-from_apart, with_mapping-lower, with_mapping-higher, others_lower, others_higher, others_here}

-- inserting, by the first address
pub inserted-lower : (key : ℕ) (m : Mapping) (k : ℕ) (l : Shape) (x : Mapping) (r : Shape) → m.span.first < x.span.first → inserted key m (Branch k l x r) ≡ balanced k (inserted key m l) x r
unfolding inserted
inserted-lower key m k l x r lower = ap (λ b. cond b (balanced k (inserted key m l) x r) (balanced k l x (inserted key m r))) (lt-ltb m.span.first x.span.first lower)

pub inserted-higher : (key : ℕ) (m : Mapping) (k : ℕ) (l : Shape) (x : Mapping) (r : Shape) → x.span.first ≤ m.span.first → inserted key m (Branch k l x r) ≡ balanced k l x (inserted key m r)
unfolding inserted
inserted-higher key m k l x r higher = ap (λ b. cond b (balanced k (inserted key m l) x r) (balanced k l x (inserted key m r))) (le-ltb m.span.first x.span.first higher)

pub inserted-leaf : (key : ℕ) (m : Mapping) → inserted key m Leaf ≡ Branch key Leaf m Leaf
unfolding inserted
inserted-leaf key m = refl

-- what inserting does, by cases on the first addresses at each branch
inserted_cases : (key : ℕ) (m : Mapping) (P : Shape → Shape → Type 0) → P Leaf (Branch key Leaf m Leaf)
    → ((k : ℕ) (l : Shape) (x : Mapping) (r : Shape) → m.span.first < x.span.first → P l (inserted key m l) → P (Branch k l x r) (balanced k (inserted key m l) x r))
    → ((k : ℕ) (l : Shape) (x : Mapping) (r : Shape) → x.span.first ≤ m.span.first → P r (inserted key m r) → P (Branch k l x r) (balanced k l x (inserted key m r)))
    → (t : Shape) → P t (inserted key m t)
unfolding inserted
inserted_cases key m P leaf lower higher Leaf = leaf
inserted_cases key m P leaf lower higher (Branch k l x r) =
    let in_left = inserted_cases key m P leaf lower higher l in
    let in_right = inserted_cases key m P leaf lower higher r in
    by_test (nat_lt m.span.first x.span.first) (λ b. P (Branch k l x r) (cond b (balanced k (inserted key m l) x r) (balanced k l x (inserted key m r))))
    (λ (t : nat_lt m.span.first x.span.first ≡ true). lower k l x r (ltb-true m.span.first x.span.first t) in_left)
    (λ (t : nat_lt m.span.first x.span.first ≡ false). higher k l x r (ltb-false m.span.first x.span.first t) in_right)

pub tally-inserted : (j key : ℕ) (m : Mapping) (t : Shape) → tally j (inserted key m t) ≡ tally j t + one_at j key
tally-inserted j key m t =
    inserted_cases key m (λ t u. tally j u ≡ tally j t + one_at j key) (omega arith)
    (λ k l x r lower rest. omega (arith, tally-balanced j k (inserted key m l) x r))
    (λ k l x r higher rest. omega (arith, tally-balanced j k l x (inserted key m r)))
    t

pub height-inserted : (key : ℕ) (m : Mapping) (t : Shape) → height (inserted key m t) ≤ height t + 1
height-inserted key m t =
    inserted_cases key m (λ t u. height u ≤ height t + 1) (omega arith)
    (λ k l x r lower rest. omega (arith, height-balanced k (inserted key m l) x r))
    (λ k l x r higher rest. omega (arith, height-balanced k l x (inserted key m r)))
    t

pub inorder-inserted : (key : ℕ) (m : Mapping) (t : Shape) → AreApart (inorder t) → inorder (inserted key m t) ≡ with_mapping m (inorder t)
inorder-inserted key m t =
    inserted_cases key m (λ t u. AreApart (inorder t) → inorder u ≡ with_mapping m (inorder t)) (λ apart. refl)
    (λ k l x r lower rest apart.
    inorder-balanced k (inserted key m l) x r
    ∙ ap (λ xs. xs ++ x ∷ inorder r) (rest (AreApart-left (inorder l) (x ∷ inorder r) apart))
    ∙ sym (with_mapping-lower m x (inorder l) (inorder r) lower))
    (λ k l x r higher rest apart.
    inorder-balanced k l x (inserted key m r)
    ∙ ap (λ ys. inorder l ++ x ∷ ys) (rest (AreApart-right (inorder l) (x ∷ inorder r) apart).2)
    ∙ sym (with_mapping-higher m x (inorder l) (inorder r) (AreBefore-from_apart (inorder l) x (inorder r) apart) higher))
    t

-- a balanced tree that became at most one higher and is balanced
pub record Grows (t u : Shape) : Type 0 where
  pub is_balanced : IsBalanced u
  pub at_least : height t ≤ height u
  pub at_most : height u ≤ height t + 1

pub Grows-inserted : (key : ℕ) (m : Mapping) (t : Shape) → IsBalanced t → Grows t (inserted key m t)
Grows-inserted key m t =
    inserted_cases key m (λ t u. IsBalanced t → Grows t u) (λ b. record { is_balanced = (omega arith, omega arith, tt, tt); at_least = omega arith; at_most = omega arith })
    (λ k l x r lower rest (b : IsBalanced (Branch k l x r)).
    let left : height l ≤ height r + 1 = b.0 in
    let right : height r ≤ height l + 1 = b.1 in
    let grown : Grows l (inserted key m l) = rest b.2 in
    let settled = Settles-balanced k (inserted key m l) x r grown.is_balanced b.3 (omega arith) (omega arith) in
    let even = settled.even in
    record { is_balanced = settled.is_balanced; at_least = omega arith; at_most = omega arith })
    (λ k l x r higher rest (b : IsBalanced (Branch k l x r)).
    let left : height l ≤ height r + 1 = b.0 in
    let right : height r ≤ height l + 1 = b.1 in
    let grown : Grows r (inserted key m r) = rest b.3 in
    let settled = Settles-balanced k l x (inserted key m r) b.2 grown.is_balanced (omega arith) (omega arith) in
    let even = settled.even in
    record { is_balanced = settled.is_balanced; at_least = omega arith; at_most = omega arith })
    t

-- a balanced tree that became at most one lower and is balanced
pub record Shrinks (t u : Shape) : Type 0 where
  pub is_balanced : IsBalanced u
  pub at_least : height t ≤ height u + 1
  pub at_most : height u ≤ height t

shrinks_left : (k : ℕ) (l : Shape) (x : Mapping) (r u : Shape) → IsBalanced (Branch k l x r) → Shrinks l u → Shrinks (Branch k l x r) (balanced k u x r)
shrinks_left k l x r u b shrunk =
    let left : height l ≤ height r + 1 = b.0 in
    let right : height r ≤ height l + 1 = b.1 in
    let settled = Settles-balanced k u x r shrunk.is_balanced b.3 (omega arith) (omega arith) in
    let even = settled.even in
    record { is_balanced = settled.is_balanced; at_least = omega arith; at_most = omega arith }

shrinks_right : (k : ℕ) (l : Shape) (x : Mapping) (r u : Shape) → IsBalanced (Branch k l x r) → Shrinks r u → Shrinks (Branch k l x r) (balanced k l x u)
shrinks_right k l x r u b shrunk =
    let left : height l ≤ height r + 1 = b.0 in
    let right : height r ≤ height l + 1 = b.1 in
    let settled = Settles-balanced k l x u b.2 shrunk.is_balanced (omega arith) (omega arith) in
    let even = settled.even in
    record { is_balanced = settled.is_balanced; at_least = omega arith; at_most = omega arith }

-- what is known of the lowest mapping and the rest
pub record IsLowest (low : Lowest) (t : Shape) : Type 0 where
  pub order : low.mapping ∷ inorder low.rest ≡ inorder t
  pub count : (j : ℕ) → one_at j low.key + tally j low.rest ≡ tally j t
  pub high : height low.rest ≤ height t
  pub shrinks : IsBalanced t → Shrinks t low.rest

pub IsLowest-lowest : (k : ℕ) (l : Shape) (m : Mapping) (r : Shape) → IsLowest (lowest k l m r) (Branch k l m r)
unfolding lowest
IsLowest-lowest k Leaf m r = record {
  order = refl;
  count = λ j. omega arith;
  high = omega arith;
  shrinks = λ (b : IsBalanced (Branch k Leaf m r)). let right : height r ≤ 0 + 1 = b.1 in record { is_balanced = b.3; at_least = omega arith; at_most = omega arith };
}
IsLowest-lowest k (Branch i a x b) m r =
    let low = lowest i a x b in
    let rest : IsLowest low (Branch i a x b) = IsLowest-lowest i a x b in
    let l = Branch i a x b in
    record {
      order = ap (λ zs. low.mapping ∷ zs) (inorder-balanced k low.rest m r) ∙ ap (λ zs. zs ++ m ∷ inorder r) rest.order;
      count = λ j. omega (arith, tally-balanced j k low.rest m r, rest.count j);
      high = omega (arith, height-balanced k low.rest m r, rest.high);
      shrinks = λ (b' : IsBalanced (Branch k l m r)). shrinks_left k l m r low.rest b' (rest.shrinks b'.2);
    }

pub inorder-merged : (l r : Shape) → inorder (merged l r) ≡ inorder l ++ inorder r
unfolding merged
inorder-merged l Leaf = sym (append-nil (inorder l))
inorder-merged l (Branch k a x b) =
    let low = lowest k a x b in
    inorder-balanced low.key l low.mapping low.rest ∙ ap (λ zs. inorder l ++ zs) (IsLowest-lowest k a x b).order

pub tally-merged : (j : ℕ) (l r : Shape) → tally j (merged l r) ≡ tally j l + tally j r
unfolding merged
tally-merged j l Leaf = omega arith
tally-merged j l (Branch k a x b) =
    let low = lowest k a x b in
    omega (arith, tally-balanced j low.key l low.mapping low.rest, (IsLowest-lowest k a x b).count j)

pub height-merged : (l r : Shape) → height (merged l r) ≤ max (height l) (height r) + 1
unfolding merged
height-merged l Leaf = omega arith
height-merged l (Branch k a x b) =
    let low = lowest k a x b in
    omega (arith, height-balanced low.key l low.mapping low.rest, (IsLowest-lowest k a x b).high)

pub Shrinks-merged : (k : ℕ) (l : Shape) (m : Mapping) (r : Shape) → IsBalanced (Branch k l m r) → Shrinks (Branch k l m r) (merged l r)
unfolding merged
Shrinks-merged k l m Leaf b =
    let left : height l ≤ 0 + 1 = b.0 in
    record { is_balanced = b.2; at_least = omega arith; at_most = omega arith }
Shrinks-merged k l m (Branch i a x c) b =
    let low = lowest i a x c in
    let shrunk : Shrinks (Branch i a x c) low.rest = (IsLowest-lowest i a x c).shrinks b.3 in
    let as_branch : Shrinks (Branch low.key l low.mapping (Branch i a x c)) (balanced low.key l low.mapping low.rest) = shrinks_right low.key l low.mapping (Branch i a x c) low.rest b shrunk in
    record { is_balanced = as_branch.is_balanced; at_least = as_branch.at_least; at_most = as_branch.at_most }

-- removing, by the first address
pub without-lower : (first k : ℕ) (l : Shape) (m : Mapping) (r : Shape) → first < m.span.first → without first (Branch k l m r) ≡ balanced k (without first l) m r
unfolding without
without-lower first k l m r lower = ap (λ b. cond b (balanced k (without first l) m r) (cond (nat_lt m.span.first first) (balanced k l m (without first r)) (merged l r))) (lt-ltb first m.span.first lower)

pub without-higher : (first k : ℕ) (l : Shape) (m : Mapping) (r : Shape) → m.span.first < first → without first (Branch k l m r) ≡ balanced k l m (without first r)
unfolding without
without-higher first k l m r higher =
    ap (λ b. cond b (balanced k (without first l) m r) (cond (nat_lt m.span.first first) (balanced k l m (without first r)) (merged l r))) (le-ltb first m.span.first (omega arith))
    ∙ ap (λ b. cond b (balanced k l m (without first r)) (merged l r)) (lt-ltb m.span.first first higher)

pub without-here : (first k : ℕ) (l : Shape) (m : Mapping) (r : Shape) → m.span.first ≤ first → first ≤ m.span.first → without first (Branch k l m r) ≡ merged l r
unfolding without
without-here first k l m r up down =
    ap (λ b. cond b (balanced k (without first l) m r) (cond (nat_lt m.span.first first) (balanced k l m (without first r)) (merged l r))) (le-ltb first m.span.first up)
    ∙ ap (λ b. cond b (balanced k l m (without first r)) (merged l r)) (le-ltb m.span.first first down)

pub without-leaf : (first : ℕ) → without first Leaf ≡ Leaf
unfolding without
without-leaf first = refl

without_cases : (first : ℕ) (P : Shape → Shape → Type 0) → P Leaf Leaf
    → ((k : ℕ) (l : Shape) (m : Mapping) (r : Shape) → first < m.span.first → P l (without first l) → P (Branch k l m r) (balanced k (without first l) m r))
    → ((k : ℕ) (l : Shape) (m : Mapping) (r : Shape) → m.span.first < first → P r (without first r) → P (Branch k l m r) (balanced k l m (without first r)))
    → ((k : ℕ) (l : Shape) (m : Mapping) (r : Shape) → m.span.first ≡ first → P (Branch k l m r) (merged l r))
    → (t : Shape) → P t (without first t)
unfolding without
without_cases first P leaf lower higher here Leaf = leaf
without_cases first P leaf lower higher here (Branch k l m r) =
    let in_left = without_cases first P leaf lower higher here l in
    let in_right = without_cases first P leaf lower higher here r in
    let other = cond (nat_lt m.span.first first) (balanced k l m (without first r)) (merged l r) in
    by_test (nat_lt first m.span.first) (λ b. P (Branch k l m r) (cond b (balanced k (without first l) m r) other))
    (λ (t : nat_lt first m.span.first ≡ true). lower k l m r (ltb-true first m.span.first t) in_left)
    (λ (t : nat_lt first m.span.first ≡ false).
    let le : m.span.first ≤ first = ltb-false first m.span.first t in
    by_test (nat_lt m.span.first first) (λ b. P (Branch k l m r) (cond b (balanced k l m (without first r)) (merged l r)))
    (λ (t' : nat_lt m.span.first first ≡ true). higher k l m r (ltb-true m.span.first first t') in_right)
    (λ (t' : nat_lt m.span.first first ≡ false). let ge : first ≤ m.span.first = ltb-false m.span.first first t' in here k l m r (omega arith)))

pub tally-without : (j first : ℕ) (t : Shape) → tally j (without first t) ≤ tally j t
tally-without j first t =
    without_cases first (λ t u. tally j u ≤ tally j t) (omega arith)
    (λ k l m r lower rest. omega (arith, tally-balanced j k (without first l) m r))
    (λ k l m r higher rest. omega (arith, tally-balanced j k l m (without first r)))
    (λ k l m r here. omega (arith, tally-merged j l r))
    t

pub height-without : (first : ℕ) (t : Shape) → height (without first t) ≤ height t
height-without first t =
    without_cases first (λ t u. height u ≤ height t) (omega arith)
    (λ k l m r lower rest. omega (arith, height-balanced k (without first l) m r))
    (λ k l m r higher rest. omega (arith, height-balanced k l m (without first r)))
    (λ k l m r here. omega (arith, height-merged l r))
    t

pub inorder-without : (first : ℕ) (t : Shape) → AreApart (inorder t) → inorder (without first t) ≡ others_than first (inorder t)
inorder-without first t =
    without_cases first (λ t u. AreApart (inorder t) → inorder u ≡ others_than first (inorder t)) (λ apart. refl)
    (λ k l m r lower rest apart.
    inorder-balanced k (without first l) m r
    ∙ ap (λ xs. xs ++ m ∷ inorder r) (rest (AreApart-left (inorder l) (m ∷ inorder r) apart))
    ∙ sym (others_lower first (inorder l) m (inorder r) apart lower))
    (λ k l m r higher rest apart.
    inorder-balanced k l m (without first r)
    ∙ ap (λ ys. inorder l ++ m ∷ ys) (rest (AreApart-right (inorder l) (m ∷ inorder r) apart).2)
    ∙ sym (others_higher first (inorder l) m (inorder r) apart higher))
    (λ k l m r here apart. inorder-merged l r ∙ sym (others_here first (inorder l) m (inorder r) apart here))
    t

pub Shrinks-without : (first : ℕ) (t : Shape) → IsBalanced t → Shrinks t (without first t)
Shrinks-without first t =
    without_cases first (λ t u. IsBalanced t → Shrinks t u) (λ b. record { is_balanced = tt; at_least = omega arith; at_most = omega arith })
    (λ k l m r lower rest (b : IsBalanced (Branch k l m r)). shrinks_left k l m r (without first l) b (rest b.2))
    (λ k l m r higher rest (b : IsBalanced (Branch k l m r)). shrinks_right k l m r (without first r) b (rest b.3))
    (λ k l m r here b. Shrinks-merged k l m r b)
    t
