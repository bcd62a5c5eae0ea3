use Rattle.std.proofs.Common.{◌≡◌, arith, sym, ap, ◌∙◌}
use Rattle.vi_tree.specs.Shapes.{link_height}
use Rattle.vi_tree.proofs.HeldLemmas.{Becomes-turned_left, low_links}
use Rattle.vi_tree.proofs.balance.turn_left.Goals as goal

pub place-left-requires-clause-right_low : goal.place-left-requires-clause-right_low
place-left-requires-clause-right_low c =
    let h = c.requires.sides in
    let low = low_links c.args.nodes.now c.args.side c.args.right h.r (sym c.requires.leads ∙ h.sides.right) h.sides.right_held c.requires.read in
    let top : link_height c.args.node.right ≡ c.args.side.height = ap link_height c.requires.leads in
    omega (arith, low.left)

pub place-requires-clause-left_low : goal.place-requires-clause-left_low
place-requires-clause-left_low c =
    let h = c.requires.sides in
    let low = low_links c.args.nodes.now c.args.side c.args.right h.r (sym c.requires.leads ∙ h.sides.right) h.sides.right_held c.requires.read in
    let top : link_height c.args.node.right ≡ c.args.side.height = ap link_height c.requires.leads in
    omega (arith, low.left, low.right, ap link_height c.place-left.ensures.link)

pub place-requires-clause-right_low : goal.place-requires-clause-right_low
place-requires-clause-right_low c =
    let h = c.requires.sides in
    let low = low_links c.args.nodes.now c.args.side c.args.right h.r (sym c.requires.leads ∙ h.sides.right) h.sides.right_held c.requires.read in
    let top : link_height c.args.node.right ≡ c.args.side.height = ap link_height c.requires.leads in
    omega (arith, low.left, low.right)

pub returns-clause-becomes : goal.returns-clause-becomes
returns-clause-becomes c = λ l r sides.
    Becomes-turned_left c.args.nodes.now c.place-left.new.nodes c.place.new.nodes c.args.key c.args.node c.args.side c.args.right l r _ _ c.requires.leads c.requires.read sides c.place-left.ensures.updates c.place-left.ensures.link c.place.ensures.updates c.place.ensures.link
