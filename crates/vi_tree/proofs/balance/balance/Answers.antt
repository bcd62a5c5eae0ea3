use Rattle.std.proofs.Common.{◌≡◌, ◌+◌, nat_lt, true, false, arith, ap, ◌∙◌}
use Rattle.std.proofs.lemmas.Bool.{lt-ltb, le-ltb}
use Rattle.vi_tree.specs.Shapes.{height, link_height}
use Rattle.vi_tree.specs.Moves.{balanced}
use Rattle.vi_tree.proofs.ShapeLemmas.{link_height-link_of}
use Rattle.vi_tree.proofs.HeldLemmas.{Becomes-place}
use Rattle.vi_tree.proofs.balance.balance.Goals as goal

pub returns-then-right-left-clause-becomes : goal.returns-then-right-left-clause-becomes
unfolding balanced
returns-then-right-left-clause-becomes c = λ l r sides.
    let l_height : link_height c.args.node.left ≡ height l = ap link_height sides.left ∙ link_height-link_of l in
    let r_height : link_height c.args.node.right ≡ height r = ap link_height sides.right ∙ link_height-link_of r in
    let higher : nat_lt (height r + 1) (height l) ≡ true = lt-ltb _ _ (omega arith) in
    rw higher (c.raise_left.ensures.becomes l r sides)

pub returns-then-left-right-clause-becomes : goal.returns-then-left-right-clause-becomes
unfolding balanced
returns-then-left-right-clause-becomes c = λ l r sides.
    let l_height : link_height c.args.node.left ≡ height l = ap link_height sides.left ∙ link_height-link_of l in
    let r_height : link_height c.args.node.right ≡ height r = ap link_height sides.right ∙ link_height-link_of r in
    let not_left : nat_lt (height r + 1) (height l) ≡ false = le-ltb _ _ (omega arith) in
    let higher : nat_lt (height l + 1) (height r) ≡ true = lt-ltb _ _ (omega arith) in
    rw (not_left, higher) (c.raise_right.ensures.becomes l r sides)

pub returns-else-left-right-clause-becomes : goal.returns-else-left-right-clause-becomes
unfolding balanced
returns-else-left-right-clause-becomes c = λ l r sides.
    let l_height : link_height c.args.node.left ≡ height l = ap link_height sides.left ∙ link_height-link_of l in
    let r_height : link_height c.args.node.right ≡ height r = ap link_height sides.right ∙ link_height-link_of r in
    let not_left : nat_lt (height r + 1) (height l) ≡ false = le-ltb _ _ (omega arith) in
    let not_right : nat_lt (height l + 1) (height r) ≡ false = le-ltb _ _ (omega arith) in
    rw (not_left, not_right) (Becomes-place c.args.nodes.now c.place.new.nodes c.args.key c.args.node l r _ sides c.place.ensures.updates c.place.ensures.link)
