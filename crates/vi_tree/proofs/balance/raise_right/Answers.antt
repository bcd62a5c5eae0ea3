use Rattle.std.proofs.Common.{◌≡◌, nat_lt, true, false, arith, sym, ◌∙◌}
use Rattle.std.proofs.lemmas.Bool.{lt-ltb, le-ltb}
use Rattle.vi_tree.specs.Shapes.{link_height}
use Rattle.vi_tree.proofs.HeldLemmas.{Becomes-place, raised_right-none, raised_right-leans, ContainsKey-from_link}
use Rattle.vi_tree.proofs.balance.raise_right.Goals as goal

pub read-right-requires-clause-there : goal.read-right-requires-clause-there
read-right-requires-clause-there c =
    let h = c.requires.sides in
    ContainsKey-from_link c.args.nodes.now c.in-Some.side h.r (sym c.in-Some.is ∙ h.sides.right) h.sides.right_held

pub lift_right-requires-clause-counts : goal.lift_right-requires-clause-counts
lift_right-requires-clause-counts c = omega arith

pub turn_left-requires-clause-counts : goal.turn_left-requires-clause-counts
turn_left-requires-clause-counts c = omega arith

pub returns-in-None-clause-becomes : goal.returns-in-None-clause-becomes
returns-in-None-clause-becomes c = λ l r sides.
    rw (raised_right-none c.args.key c.args.node.mapping l r (sym c.in-None.is ∙ sides.right))
    (Becomes-place c.args.nodes.now c.place.new.nodes c.args.key c.args.node l r _ sides c.place.ensures.updates c.place.ensures.link)

pub returns-then-height_of-clause-becomes : goal.returns-then-height_of-clause-becomes
returns-then-height_of-clause-becomes c = λ l r sides.
    let leans = raised_right-leans c.args.nodes.now c.args.key c.args.node c.in-Some.side c.read-right.result l r c.in-Some.is c.read-right.ensures.node sides in
    let lt : nat_lt (link_height c.read-right.result.right) (link_height c.read-right.result.left) ≡ true = lt-ltb _ _ (omega arith) in
    rw (leans, lt) (c.lift_right.ensures.becomes l r sides)

pub returns-else-height_of-clause-becomes : goal.returns-else-height_of-clause-becomes
returns-else-height_of-clause-becomes c = λ l r sides.
    let leans = raised_right-leans c.args.nodes.now c.args.key c.args.node c.in-Some.side c.read-right.result l r c.in-Some.is c.read-right.ensures.node sides in
    let ge : nat_lt (link_height c.read-right.result.right) (link_height c.read-right.result.left) ≡ false = le-ltb _ _ (omega arith) in
    rw (leans, ge) (c.turn_left.ensures.becomes l r sides)
