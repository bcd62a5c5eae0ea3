use Rattle.std.proofs.Common.{◌≡◌, arith, sym, ap, ◌∙◌}
use Rattle.vi_tree.specs.Shapes.{link_height}
use Rattle.vi_tree.proofs.HeldLemmas.{Becomes-turned_right, low_links}
use Rattle.vi_tree.proofs.balance.turn_right.Goals as goal

pub place-right-requires-clause-left_low : goal.place-right-requires-clause-left_low
place-right-requires-clause-left_low c =
    let h = c.requires.sides in
    let low = low_links c.args.nodes.now c.args.side c.args.left h.l (sym c.requires.leads ∙ h.sides.left) h.sides.left_held c.requires.read in
    let top : link_height c.args.node.left ≡ c.args.side.height = ap link_height c.requires.leads in
    omega (arith, low.right)

pub place-requires-clause-left_low : goal.place-requires-clause-left_low
place-requires-clause-left_low c =
    let h = c.requires.sides in
    let low = low_links c.args.nodes.now c.args.side c.args.left h.l (sym c.requires.leads ∙ h.sides.left) h.sides.left_held c.requires.read in
    let top : link_height c.args.node.left ≡ c.args.side.height = ap link_height c.requires.leads in
    omega (arith, low.left, low.right)

pub place-requires-clause-right_low : goal.place-requires-clause-right_low
place-requires-clause-right_low c =
    let h = c.requires.sides in
    let low = low_links c.args.nodes.now c.args.side c.args.left h.l (sym c.requires.leads ∙ h.sides.left) h.sides.left_held c.requires.read in
    let top : link_height c.args.node.left ≡ c.args.side.height = ap link_height c.requires.leads in
    omega (arith, low.left, low.right, ap link_height c.place-right.ensures.link)

pub returns-clause-becomes : goal.returns-clause-becomes
returns-clause-becomes c = λ l r sides.
    Becomes-turned_right c.args.nodes.now c.place-right.new.nodes c.place.new.nodes c.args.key c.args.node c.args.side c.args.left l r _ _ c.requires.leads c.requires.read sides c.place-right.ensures.updates c.place-right.ensures.link c.place.ensures.updates c.place.ensures.link
