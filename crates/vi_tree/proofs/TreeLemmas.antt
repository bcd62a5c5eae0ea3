-- A tree in a slab, through its moves.
use Rattle.std.proofs.Common.{◌≡◌, ℕ, zero, suc, ◌+◌, ◌-◌, ◌^◌, ◌≤◌, ◌<◌, [], length, Option, None, is_some, refl, sym, ap, ◌∙◌, subst, arith, ⊎_elim}
use Rattle.std.specs.List.{count_by}
use Rattle.std.proofs.lemmas.Bool.{cases_lt}
use Rattle.slab.specs.Slab.{Slab, get, slab_len, ContainsKey, Updates}
use Rattle.vi_bytes.specs.declared.lease.Mapping.{Mapping}
use Rattle.vi_bytes.specs.Spans.{IsProper}
use Rattle.vi_bytes.specs.Mappings.{mapping_meeting, with_mapping}
use Rattle.vi_ranges.proofs.MappingLemmas.{AreApart-filter, AreApart-with_mapping, length-with_mapping}
use Rattle.vi_tree.specs.declared.node.Child.{Child}
use Rattle.vi_tree.specs.declared.node.Node.{Node}
use Rattle.vi_tree.specs.Shapes.{Shape, Leaf, Branch, height, inorder, tally, link_of, link_height}
use Rattle.vi_tree.specs.Moves.{inserted, without}
use Rattle.vi_tree.specs.Held.{IsHeld, Holds, Becomes, SameRoom}
use Rattle.vi_tree.specs.Trees.{branch_at, shape_within, shape_of, IsTree, others_than, level}
use Rattle.vi_tree.proofs.ShapeLemmas.{link_height-link_of}
use Rattle.vi_tree.proofs.MoveLemmas.{inorder-inserted, Grows-inserted, inorder-without, Shrinks-without}
use Rattle.vi_tree.proofs.HeldLemmas.{IsHeld-kept, IsHeld-updates, ContainsKey-from_IsHeld}
use Rattle.vi_tree.proofs.LevelLemmas.{height-level, level-small}

-- what is read down from a link is the tree that it leads to
shape_within-held : (s : Slab Node) (levels : ℕ) (t : Shape) → IsHeld s t → height t ≤ levels → shape_within levels s (link_of t) ≡ t
unfolding shape_within
shape_within-held s zero Leaf held low = refl
shape_within-held s zero (Branch key l m r) held low = absurd (omega arith)
shape_within-held s (suc levels) Leaf held low = refl
shape_within-held s (suc levels) (Branch key l m r) held low =
    let below = shape_within levels s in
    let left = shape_within-held s levels l held.1 (omega arith) in
    let right = shape_within-held s levels r held.2 (omega arith) in
    ap (λ slot. branch_at key below slot) held.0 ∙ ap (λ u. Branch key u m (below (link_of r))) left ∙ ap (λ u. Branch key l m u) right

pub shape_of-holds : (s : Slab Node) (link : Option Child) (t : Shape) → Holds s link t → shape_of s link ≡ t
shape_of-holds s link t holds =
    ap (λ (k : Option Child). shape_within (link_height k) s k) holds.leads ∙ ap (λ n. shape_within n s (link_of t)) (link_height-link_of t) ∙ shape_within-held s (height t) t holds.held (omega arith)

-- a tree is the one that its link tells
pub IsTree-own : (s : Slab Node) (root : Option Child) (spare : ℕ) (t : Shape) → IsTree s root spare t → IsTree s root spare (shape_of s root)
IsTree-own s root spare t is = let P : Shape → Type 0 = λ u. IsTree s root spare u in subst P (sym (shape_of-holds s root t is.holds)) is

pub root_low : (s : Slab Node) (root : Option Child) (spare : ℕ) (t : Shape) → IsTree s root spare t → link_height root ≤ level (length (inorder t))
root_low s root spare t is =
    let top : link_height root ≡ height t = ap link_height is.holds.leads ∙ link_height-link_of t in
    omega (arith, height-level t is.balanced)

pub level_low : (s : Slab Node) (root : Option Child) (spare : ℕ) (t : Shape) → IsTree s root spare t → level (length (inorder t)) ≤ 64
level_low s root spare t is = let few = is.few in level-small (length (inorder t)) (omega arith)

-- an empty slab
pub IsTree-empty : (s : Slab Node) (spare : ℕ) → s.slots ≡ [] → spare ≤ s.capacity → spare < 2 ^ 32 → IsTree s None spare Leaf
IsTree-empty s spare empty room few = record {
  holds = record { leads = refl; held = tt; once = λ k. omega arith };
  balanced = tt;
  apart = tt;
  counted = ap (λ xs. count_by is_some xs) empty;
  room = omega arith;
  few = omega arith;
}

-- a slab with more room
pub IsTree-roomier : (s s1 : Slab Node) (root : Option Child) (spare more : ℕ) (t : Shape) → IsTree s root spare t → s1 ≡ record s { capacity = s1.capacity } → length (inorder t) + more ≤ s1.capacity → length (inorder t) + more < 2 ^ 32 → IsTree s1 root more t
IsTree-roomier s s1 root spare more t is same room few =
    let slots : s1.slots ≡ s.slots = ap (λ x. x.slots) same in
    record {
      holds = record { leads = is.holds.leads; held = IsHeld-kept s s1 t is.holds.held (λ k some. ap (λ x. get x k) same); once = is.holds.once };
      balanced = is.balanced;
      apart = is.apart;
      counted = ap (λ xs. count_by is_some xs) slots ∙ is.counted;
      room = room;
      few = few;
    }

-- a key that was free is none of the tree's
pub absent_from_free : (s : Slab Node) (t : Shape) (key : ℕ) → IsHeld s t → get s key ≡ None → tally key t ≡ 0
absent_from_free s t key held free =
    ⊎_elim
    (λ (some : 0 < tally key t). let there : ContainsKey s key = ContainsKey-from_IsHeld s t key held (omega arith) in let nothing = rw free at there in absurd (cc))
    (λ (none : tally key t ≤ 0). omega arith)
    (cases_lt 0 (tally key t))

-- a mapping apart from the others was linked
pub IsTree-inserted : (s s1 s2 : Slab Node) (root result : Option Child) (spare : ℕ) (t : Shape) (m : Mapping) (key : ℕ) → IsTree s root spare t → IsProper m.span → 1 ≤ spare → mapping_meeting m.span (inorder t) ≡ None → slab_len s1 ≡ slab_len s + 1 → s1.capacity ≡ s.capacity → Becomes s1 s2 (inserted key m t) result (inserted key m t) → SameRoom s1 s2 → IsTree s2 result (spare - 1) (inserted key m t)
IsTree-inserted s s1 s2 root result spare t m key is proper some free len capacity becomes same =
    let order : inorder (inserted key m t) ≡ with_mapping m (inorder t) = inorder-inserted key m t is.apart in
    let size : length (inorder (inserted key m t)) ≡ length (inorder t) + 1 = ap length order ∙ length-with_mapping m (inorder t) in
    let counted = is.counted in
    let room = is.room in
    let few = is.few in
    let same_len = same.len in
    let same_capacity = same.capacity in
    record {
      holds = becomes.holds;
      balanced = (Grows-inserted key m t is.balanced).is_balanced;
      apart = rw order (AreApart-with_mapping m (inorder t) proper is.apart free);
      counted = omega arith;
      room = omega arith;
      few = omega arith;
    }

-- a mapping was taken out
pub IsTree-removed : (s s1 : Slab Node) (root result : Option Child) (spare : ℕ) (t : Shape) (first : ℕ) → IsTree s root spare t → Becomes s s1 t result (without first t) → slab_len s1 + length (inorder t) ≡ slab_len s + length (inorder (without first t)) → s1.capacity ≡ s.capacity → length (others_than first (inorder t)) + 1 ≡ length (inorder t) → IsTree s1 result (spare + 1) (without first t)
IsTree-removed s s1 root result spare t first is becomes len capacity there =
    let order : inorder (without first t) ≡ others_than first (inorder t) = inorder-without first t is.apart in
    let size : length (inorder (without first t)) + 1 ≡ length (inorder t) = ap (λ n. n + 1) (ap length order) ∙ there in
    let counted = is.counted in
    let room = is.room in
    let few = is.few in
    record {
      holds = becomes.holds;
      balanced = (Shrinks-without first t is.balanced).is_balanced;
      apart = rw order (AreApart-filter _ (inorder t) is.apart);
      counted = omega arith;
      room = omega arith;
      few = omega arith;
    }

-- a new node leaves the tree as it is
pub Holds-put : (s s1 : Slab Node) (root : Option Child) (t : Shape) (key : ℕ) (slot : Option Node) → Holds s root t → tally key t ≡ 0 → Updates s s1 key slot → Holds s1 root t
Holds-put s s1 root t key slot holds absent updates = record { leads = holds.leads; held = IsHeld-updates s s1 key slot t updates absent holds.held; once = holds.once }
