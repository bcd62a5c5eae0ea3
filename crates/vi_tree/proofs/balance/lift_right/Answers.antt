use Rattle.std.proofs.Common.{◌≡◌, arith, sym, ap, ◌∙◌}
use Rattle.vi_tree.specs.Shapes.{link_height}
use Rattle.vi_tree.proofs.HeldLemmas.{Becomes-lifted_right, lifted_right-none, opened, low_links, ContainsKey-from_link}
use Rattle.vi_tree.proofs.balance.lift_right.Goals as goal

pub read-top-requires-clause-there : goal.read-top-requires-clause-there
read-top-requires-clause-there c =
    let h = c.requires.sides in
    let o = opened c.args.nodes.now c.args.side c.args.right h.r (sym c.requires.leads ∙ h.sides.right) h.sides.right_held c.requires.read in
    let low = low_links c.args.nodes.now c.args.side c.args.right h.r (sym c.requires.leads ∙ h.sides.right) h.sides.right_held c.requires.read in
    let high : link_height c.args.node.right ≡ c.args.side.height = ap link_height c.requires.leads in
    ContainsKey-from_link c.args.nodes.now c.in-Some.inner o.l (sym c.in-Some.is ∙ o.left) o.l_held

pub place-lower-requires-clause-left_low : goal.place-lower-requires-clause-left_low
place-lower-requires-clause-left_low c =
    let h = c.requires.sides in
    let o = opened c.args.nodes.now c.args.side c.args.right h.r (sym c.requires.leads ∙ h.sides.right) h.sides.right_held c.requires.read in
    let low = low_links c.args.nodes.now c.args.side c.args.right h.r (sym c.requires.leads ∙ h.sides.right) h.sides.right_held c.requires.read in
    let high : link_height c.args.node.right ≡ c.args.side.height = ap link_height c.requires.leads in
    let inner = low_links c.args.nodes.now c.in-Some.inner c.read-top.result o.l (sym c.in-Some.is ∙ o.left) o.l_held c.read-top.ensures.node in
    let inner_high : link_height c.args.right.left ≡ c.in-Some.inner.height = ap link_height c.in-Some.is in
    omega (arith, low.left, low.right, inner.left, inner.right)

pub place-lower-requires-clause-right_low : goal.place-lower-requires-clause-right_low
place-lower-requires-clause-right_low c =
    let h = c.requires.sides in
    let o = opened c.args.nodes.now c.args.side c.args.right h.r (sym c.requires.leads ∙ h.sides.right) h.sides.right_held c.requires.read in
    let low = low_links c.args.nodes.now c.args.side c.args.right h.r (sym c.requires.leads ∙ h.sides.right) h.sides.right_held c.requires.read in
    let high : link_height c.args.node.right ≡ c.args.side.height = ap link_height c.requires.leads in
    let inner = low_links c.args.nodes.now c.in-Some.inner c.read-top.result o.l (sym c.in-Some.is ∙ o.left) o.l_held c.read-top.ensures.node in
    let inner_high : link_height c.args.right.left ≡ c.in-Some.inner.height = ap link_height c.in-Some.is in
    omega (arith, low.left, low.right, inner.left, inner.right)

pub place-higher-requires-clause-left_low : goal.place-higher-requires-clause-left_low
place-higher-requires-clause-left_low c =
    let h = c.requires.sides in
    let o = opened c.args.nodes.now c.args.side c.args.right h.r (sym c.requires.leads ∙ h.sides.right) h.sides.right_held c.requires.read in
    let low = low_links c.args.nodes.now c.args.side c.args.right h.r (sym c.requires.leads ∙ h.sides.right) h.sides.right_held c.requires.read in
    let high : link_height c.args.node.right ≡ c.args.side.height = ap link_height c.requires.leads in
    let inner = low_links c.args.nodes.now c.in-Some.inner c.read-top.result o.l (sym c.in-Some.is ∙ o.left) o.l_held c.read-top.ensures.node in
    let inner_high : link_height c.args.right.left ≡ c.in-Some.inner.height = ap link_height c.in-Some.is in
    omega (arith, low.left, low.right, inner.left, inner.right)

pub place-higher-requires-clause-right_low : goal.place-higher-requires-clause-right_low
place-higher-requires-clause-right_low c =
    let h = c.requires.sides in
    let o = opened c.args.nodes.now c.args.side c.args.right h.r (sym c.requires.leads ∙ h.sides.right) h.sides.right_held c.requires.read in
    let low = low_links c.args.nodes.now c.args.side c.args.right h.r (sym c.requires.leads ∙ h.sides.right) h.sides.right_held c.requires.read in
    let high : link_height c.args.node.right ≡ c.args.side.height = ap link_height c.requires.leads in
    let inner = low_links c.args.nodes.now c.in-Some.inner c.read-top.result o.l (sym c.in-Some.is ∙ o.left) o.l_held c.read-top.ensures.node in
    let inner_high : link_height c.args.right.left ≡ c.in-Some.inner.height = ap link_height c.in-Some.is in
    omega (arith, low.left, low.right, inner.left, inner.right)

pub place-requires-clause-left_low : goal.place-requires-clause-left_low
place-requires-clause-left_low c =
    let h = c.requires.sides in
    let o = opened c.args.nodes.now c.args.side c.args.right h.r (sym c.requires.leads ∙ h.sides.right) h.sides.right_held c.requires.read in
    let low = low_links c.args.nodes.now c.args.side c.args.right h.r (sym c.requires.leads ∙ h.sides.right) h.sides.right_held c.requires.read in
    let high : link_height c.args.node.right ≡ c.args.side.height = ap link_height c.requires.leads in
    let inner = low_links c.args.nodes.now c.in-Some.inner c.read-top.result o.l (sym c.in-Some.is ∙ o.left) o.l_held c.read-top.ensures.node in
    let inner_high : link_height c.args.right.left ≡ c.in-Some.inner.height = ap link_height c.in-Some.is in
    omega (arith, low.left, low.right, inner.left, inner.right, ap link_height c.place-lower.ensures.link)

pub place-requires-clause-right_low : goal.place-requires-clause-right_low
place-requires-clause-right_low c =
    let h = c.requires.sides in
    let o = opened c.args.nodes.now c.args.side c.args.right h.r (sym c.requires.leads ∙ h.sides.right) h.sides.right_held c.requires.read in
    let low = low_links c.args.nodes.now c.args.side c.args.right h.r (sym c.requires.leads ∙ h.sides.right) h.sides.right_held c.requires.read in
    let high : link_height c.args.node.right ≡ c.args.side.height = ap link_height c.requires.leads in
    let inner = low_links c.args.nodes.now c.in-Some.inner c.read-top.result o.l (sym c.in-Some.is ∙ o.left) o.l_held c.read-top.ensures.node in
    let inner_high : link_height c.args.right.left ≡ c.in-Some.inner.height = ap link_height c.in-Some.is in
    omega (arith, low.left, low.right, inner.left, inner.right, ap link_height c.place-higher.ensures.link)

pub returns-in-None-clause-becomes : goal.returns-in-None-clause-becomes
returns-in-None-clause-becomes c = λ l r sides.
    rw (lifted_right-none c.args.nodes.now c.args.key c.args.node c.args.side c.args.right l r c.requires.leads c.requires.read c.in-None.is sides) (c.turn_left.ensures.becomes l r sides)

pub returns-in-Some-clause-becomes : goal.returns-in-Some-clause-becomes
returns-in-Some-clause-becomes c = λ l r sides.
    Becomes-lifted_right c.args.nodes.now c.place-lower.new.nodes c.place-higher.new.nodes c.place.new.nodes c.args.key c.args.node c.args.side c.args.right c.in-Some.inner c.read-top.result l r _ _ _ c.requires.leads c.requires.read c.in-Some.is c.read-top.ensures.node sides
    c.place-lower.ensures.updates c.place-lower.ensures.link c.place-higher.ensures.updates c.place-higher.ensures.link c.place.ensures.updates c.place.ensures.link
