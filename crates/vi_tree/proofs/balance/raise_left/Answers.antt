use Rattle.std.proofs.Common.{◌≡◌, nat_lt, true, false, arith, sym, ◌∙◌}
use Rattle.std.proofs.lemmas.Bool.{lt-ltb, le-ltb}
use Rattle.vi_tree.specs.Shapes.{link_height}
use Rattle.vi_tree.proofs.HeldLemmas.{Becomes-place, raised_left-none, raised_left-leans, ContainsKey-from_link}
use Rattle.vi_tree.proofs.balance.raise_left.Goals as goal

pub read-left-requires-clause-there : goal.read-left-requires-clause-there
read-left-requires-clause-there c =
    let h = c.requires.sides in
    ContainsKey-from_link c.args.nodes.now c.in-Some.side h.l (sym c.in-Some.is ∙ h.sides.left) h.sides.left_held

pub lift_left-requires-clause-counts : goal.lift_left-requires-clause-counts
lift_left-requires-clause-counts c = omega arith

pub turn_right-requires-clause-counts : goal.turn_right-requires-clause-counts
turn_right-requires-clause-counts c = omega arith

pub returns-in-None-clause-becomes : goal.returns-in-None-clause-becomes
returns-in-None-clause-becomes c = λ l r sides.
    rw (raised_left-none c.args.key c.args.node.mapping l r (sym c.in-None.is ∙ sides.left))
    (Becomes-place c.args.nodes.now c.place.new.nodes c.args.key c.args.node l r _ sides c.place.ensures.updates c.place.ensures.link)

pub returns-then-height_of-clause-becomes : goal.returns-then-height_of-clause-becomes
returns-then-height_of-clause-becomes c = λ l r sides.
    let leans = raised_left-leans c.args.nodes.now c.args.key c.args.node c.in-Some.side c.read-left.result l r c.in-Some.is c.read-left.ensures.node sides in
    let lt : nat_lt (link_height c.read-left.result.left) (link_height c.read-left.result.right) ≡ true = lt-ltb _ _ (omega arith) in
    rw (leans, lt) (c.lift_left.ensures.becomes l r sides)

pub returns-else-height_of-clause-becomes : goal.returns-else-height_of-clause-becomes
returns-else-height_of-clause-becomes c = λ l r sides.
    let leans = raised_left-leans c.args.nodes.now c.args.key c.args.node c.in-Some.side c.read-left.result l r c.in-Some.is c.read-left.ensures.node sides in
    let ge : nat_lt (link_height c.read-left.result.left) (link_height c.read-left.result.right) ≡ false = le-ltb _ _ (omega arith) in
    rw (leans, ge) (c.turn_right.ensures.becomes l r sides)
