use Rattle.std.proofs.Common.{◌≡◌, Some, arith, sym, ap, ◌∙◌}
use Rattle.vi_tree.specs.Shapes.{link_height}
use Rattle.vi_tree.specs.Moves.{without}
use Rattle.vi_tree.specs.Held.{Holds}
use Rattle.vi_tree.proofs.HeldLemmas.{opened, low_links, ContainsKey-from_link}
use Rattle.vi_tree.proofs.PathLemmas.{holds_left, holds_right}
use Rattle.vi_tree.proofs.RemoveLemmas.{Sides-without_left, Sides-without_right, Contains-without_left, Contains-without_right, Becomes-without_left, Becomes-without_right, Beside-taken, Becomes-without_here, Becomes-without_leaf, height-without_link, length-without_leaf, length-without_left, length-without_right, length-without_here}
use Rattle.vi_tree.proofs.remove.+remove_at.Goals as goal

pub read-node-requires-clause-there : goal.read-node-requires-clause-there
read-node-requires-clause-there t c = ContainsKey-from_link c.args.nodes.now c.in-Some.child c.requires.stands.shape (sym c.in-Some.is ∙ c.requires.stands.holds.leads) c.requires.stands.holds.held

pub returns-in-None-clause-removes : goal.returns-in-None-clause-removes
returns-in-None-clause-removes t c = λ t' holds. Becomes-without_leaf c.args.nodes.now c.args.first t' (record { leads = sym c.in-None.is ∙ holds.leads; held = holds.held; once = holds.once })

pub returns-in-None-clause-len : goal.returns-in-None-clause-len
returns-in-None-clause-len t c = λ t' holds. omega (arith, length-without_leaf c.args.first t' (sym c.in-None.is ∙ holds.leads))

pub remove_at-left-requires : goal.remove_at-left-requires
remove_at-left-requires t c =
    let st = c.requires.stands in
    let holds : Holds c.args.nodes.now (Some c.in-Some.child) st.shape = record { leads = sym c.in-Some.is ∙ st.holds.leads; held = st.holds.held; once = st.holds.once } in
    let o = opened c.args.nodes.now c.in-Some.child c.read-node.result st.shape holds.leads holds.held c.read-node.ensures.node in
    let low = low_links c.args.nodes.now c.in-Some.child c.read-node.result st.shape holds.leads holds.held c.read-node.ensures.node in
    let top : link_height c.args.link ≡ c.in-Some.child.height = ap link_height c.in-Some.is in
    (omega (arith, c.decreases, low.left), (record { shape = o.l; holds = holds_left c.args.nodes.now c.in-Some.child c.read-node.result st.shape holds c.read-node.ensures.node o }, omega (arith, low.left)))

pub balance-requires-clause-there : goal.balance-requires-clause-there
balance-requires-clause-there t c =
    let st = c.requires.stands in
    let holds : Holds c.args.nodes.now (Some c.in-Some.child) st.shape = record { leads = sym c.in-Some.is ∙ st.holds.leads; held = st.holds.held; once = st.holds.once } in
    let o = opened c.args.nodes.now c.in-Some.child c.read-node.result st.shape holds.leads holds.held c.read-node.ensures.node in
    Contains-without_left c.args.nodes.now c.remove_at-left.new.nodes c.in-Some.child c.read-node.result c.args.first st.shape c.remove_at-left.result holds c.read-node.ensures.node o (c.remove_at-left.ensures.removes o.l (holds_left c.args.nodes.now c.in-Some.child c.read-node.result st.shape holds c.read-node.ensures.node o))

pub balance-requires-clause-sides : goal.balance-requires-clause-sides
balance-requires-clause-sides t c =
    let st = c.requires.stands in
    let holds : Holds c.args.nodes.now (Some c.in-Some.child) st.shape = record { leads = sym c.in-Some.is ∙ st.holds.leads; held = st.holds.held; once = st.holds.once } in
    let o = opened c.args.nodes.now c.in-Some.child c.read-node.result st.shape holds.leads holds.held c.read-node.ensures.node in
    record { l = without c.args.first o.l; r = o.r; sides = Sides-without_left c.args.nodes.now c.remove_at-left.new.nodes c.in-Some.child c.read-node.result c.args.first st.shape c.remove_at-left.result holds c.read-node.ensures.node o (c.remove_at-left.ensures.removes o.l (holds_left c.args.nodes.now c.in-Some.child c.read-node.result st.shape holds c.read-node.ensures.node o)) }

pub balance-requires-clause-left_low : goal.balance-requires-clause-left_low
balance-requires-clause-left_low t c =
    let st = c.requires.stands in
    let holds : Holds c.args.nodes.now (Some c.in-Some.child) st.shape = record { leads = sym c.in-Some.is ∙ st.holds.leads; held = st.holds.held; once = st.holds.once } in
    let o = opened c.args.nodes.now c.in-Some.child c.read-node.result st.shape holds.leads holds.held c.read-node.ensures.node in
    let low = low_links c.args.nodes.now c.in-Some.child c.read-node.result st.shape holds.leads holds.held c.read-node.ensures.node in
    let top : link_height c.args.link ≡ c.in-Some.child.height = ap link_height c.in-Some.is in
    omega (arith, low.left)

pub balance-requires-clause-right_low : goal.balance-requires-clause-right_low
balance-requires-clause-right_low t c =
    let st = c.requires.stands in
    let holds : Holds c.args.nodes.now (Some c.in-Some.child) st.shape = record { leads = sym c.in-Some.is ∙ st.holds.leads; held = st.holds.held; once = st.holds.once } in
    let o = opened c.args.nodes.now c.in-Some.child c.read-node.result st.shape holds.leads holds.held c.read-node.ensures.node in
    let low = low_links c.args.nodes.now c.in-Some.child c.read-node.result st.shape holds.leads holds.held c.read-node.ensures.node in
    let top : link_height c.args.link ≡ c.in-Some.child.height = ap link_height c.in-Some.is in
    omega (arith, low.right)

pub balance-requires-clause-counts : goal.balance-requires-clause-counts
balance-requires-clause-counts t c =
    let st = c.requires.stands in
    let holds : Holds c.args.nodes.now (Some c.in-Some.child) st.shape = record { leads = sym c.in-Some.is ∙ st.holds.leads; held = st.holds.held; once = st.holds.once } in
    let o = opened c.args.nodes.now c.in-Some.child c.read-node.result st.shape holds.leads holds.held c.read-node.ensures.node in
    let low = low_links c.args.nodes.now c.in-Some.child c.read-node.result st.shape holds.leads holds.held c.read-node.ensures.node in
    let top : link_height c.args.link ≡ c.in-Some.child.height = ap link_height c.in-Some.is in
    omega (arith, low.left)

pub returns-then-first-node-clause-removes : goal.returns-then-first-node-clause-removes
returns-then-first-node-clause-removes t c = λ t' given.
    let holds : Holds c.args.nodes.now (Some c.in-Some.child) t' = record { leads = sym c.in-Some.is ∙ given.leads; held = given.held; once = given.once } in
    let o = opened c.args.nodes.now c.in-Some.child c.read-node.result t' holds.leads holds.held c.read-node.ensures.node in
    Becomes-without_left c.args.nodes.now c.remove_at-left.new.nodes c.in-Some.child c.read-node.result c.args.first t' c.remove_at-left.result holds c.read-node.ensures.node o c.balance.new.nodes c.balance.result c.if-first-node.true (c.remove_at-left.ensures.removes o.l (holds_left c.args.nodes.now c.in-Some.child c.read-node.result t' holds c.read-node.ensures.node o)) c.balance.ensures.becomes

pub returns-then-first-node-clause-high : goal.returns-then-first-node-clause-high
returns-then-first-node-clause-high t c =
    let st = c.requires.stands in
    let holds : Holds c.args.nodes.now (Some c.in-Some.child) st.shape = record { leads = sym c.in-Some.is ∙ st.holds.leads; held = st.holds.held; once = st.holds.once } in
    let o = opened c.args.nodes.now c.in-Some.child c.read-node.result st.shape holds.leads holds.held c.read-node.ensures.node in
    height-without_link c.args.nodes.now c.balance.new.nodes c.args.first st.shape c.args.link c.balance.result st.holds.leads
    (Becomes-without_left c.args.nodes.now c.remove_at-left.new.nodes c.in-Some.child c.read-node.result c.args.first st.shape c.remove_at-left.result holds c.read-node.ensures.node o c.balance.new.nodes c.balance.result c.if-first-node.true (c.remove_at-left.ensures.removes o.l (holds_left c.args.nodes.now c.in-Some.child c.read-node.result st.shape holds c.read-node.ensures.node o)) c.balance.ensures.becomes)

pub returns-then-first-node-clause-len : goal.returns-then-first-node-clause-len
returns-then-first-node-clause-len t c = λ t' given.
    let holds : Holds c.args.nodes.now (Some c.in-Some.child) t' = record { leads = sym c.in-Some.is ∙ given.leads; held = given.held; once = given.once } in
    let o = opened c.args.nodes.now c.in-Some.child c.read-node.result t' holds.leads holds.held c.read-node.ensures.node in
    let below = (c.remove_at-left.ensures.len o.l (holds_left c.args.nodes.now c.in-Some.child c.read-node.result t' holds c.read-node.ensures.node o)) in
    let room = c.balance.ensures.room.len in
    omega (arith, length-without_left c.args.first c.in-Some.child.key t' o.l c.read-node.result.mapping o.r o.is c.if-first-node.true)

pub returns-then-first-node-clause-counted : goal.returns-then-first-node-clause-counted
returns-then-first-node-clause-counted t c =
    let st = c.requires.stands in
    let holds : Holds c.args.nodes.now (Some c.in-Some.child) st.shape = record { leads = sym c.in-Some.is ∙ st.holds.leads; held = st.holds.held; once = st.holds.once } in
    let o = opened c.args.nodes.now c.in-Some.child c.read-node.result st.shape holds.leads holds.held c.read-node.ensures.node in
    let low = low_links c.args.nodes.now c.in-Some.child c.read-node.result st.shape holds.leads holds.held c.read-node.ensures.node in
    let top : link_height c.args.link ≡ c.in-Some.child.height = ap link_height c.in-Some.is in
    omega (arith, low.left)

pub remove_at-right-requires : goal.remove_at-right-requires
remove_at-right-requires t c =
    let st = c.requires.stands in
    let holds : Holds c.args.nodes.now (Some c.in-Some.child) st.shape = record { leads = sym c.in-Some.is ∙ st.holds.leads; held = st.holds.held; once = st.holds.once } in
    let o = opened c.args.nodes.now c.in-Some.child c.read-node.result st.shape holds.leads holds.held c.read-node.ensures.node in
    let low = low_links c.args.nodes.now c.in-Some.child c.read-node.result st.shape holds.leads holds.held c.read-node.ensures.node in
    let top : link_height c.args.link ≡ c.in-Some.child.height = ap link_height c.in-Some.is in
    (omega (arith, c.decreases, low.right), (record { shape = o.r; holds = holds_right c.args.nodes.now c.in-Some.child c.read-node.result st.shape holds c.read-node.ensures.node o }, omega (arith, low.right)))

pub balance-requires-then-node-first-clause-there : goal.balance-requires-then-node-first-clause-there
balance-requires-then-node-first-clause-there t c =
    let st = c.requires.stands in
    let holds : Holds c.args.nodes.now (Some c.in-Some.child) st.shape = record { leads = sym c.in-Some.is ∙ st.holds.leads; held = st.holds.held; once = st.holds.once } in
    let o = opened c.args.nodes.now c.in-Some.child c.read-node.result st.shape holds.leads holds.held c.read-node.ensures.node in
    Contains-without_right c.args.nodes.now c.remove_at-right.new.nodes c.in-Some.child c.read-node.result c.args.first st.shape c.remove_at-right.result holds c.read-node.ensures.node o (c.remove_at-right.ensures.removes o.r (holds_right c.args.nodes.now c.in-Some.child c.read-node.result st.shape holds c.read-node.ensures.node o))

pub balance-requires-then-node-first-clause-sides : goal.balance-requires-then-node-first-clause-sides
balance-requires-then-node-first-clause-sides t c =
    let st = c.requires.stands in
    let holds : Holds c.args.nodes.now (Some c.in-Some.child) st.shape = record { leads = sym c.in-Some.is ∙ st.holds.leads; held = st.holds.held; once = st.holds.once } in
    let o = opened c.args.nodes.now c.in-Some.child c.read-node.result st.shape holds.leads holds.held c.read-node.ensures.node in
    record { l = o.l; r = without c.args.first o.r; sides = Sides-without_right c.args.nodes.now c.remove_at-right.new.nodes c.in-Some.child c.read-node.result c.args.first st.shape c.remove_at-right.result holds c.read-node.ensures.node o (c.remove_at-right.ensures.removes o.r (holds_right c.args.nodes.now c.in-Some.child c.read-node.result st.shape holds c.read-node.ensures.node o)) }

pub balance-requires-then-node-first-clause-left_low : goal.balance-requires-then-node-first-clause-left_low
balance-requires-then-node-first-clause-left_low t c =
    let st = c.requires.stands in
    let holds : Holds c.args.nodes.now (Some c.in-Some.child) st.shape = record { leads = sym c.in-Some.is ∙ st.holds.leads; held = st.holds.held; once = st.holds.once } in
    let o = opened c.args.nodes.now c.in-Some.child c.read-node.result st.shape holds.leads holds.held c.read-node.ensures.node in
    let low = low_links c.args.nodes.now c.in-Some.child c.read-node.result st.shape holds.leads holds.held c.read-node.ensures.node in
    let top : link_height c.args.link ≡ c.in-Some.child.height = ap link_height c.in-Some.is in
    omega (arith, low.left)

pub balance-requires-then-node-first-clause-right_low : goal.balance-requires-then-node-first-clause-right_low
balance-requires-then-node-first-clause-right_low t c =
    let st = c.requires.stands in
    let holds : Holds c.args.nodes.now (Some c.in-Some.child) st.shape = record { leads = sym c.in-Some.is ∙ st.holds.leads; held = st.holds.held; once = st.holds.once } in
    let o = opened c.args.nodes.now c.in-Some.child c.read-node.result st.shape holds.leads holds.held c.read-node.ensures.node in
    let low = low_links c.args.nodes.now c.in-Some.child c.read-node.result st.shape holds.leads holds.held c.read-node.ensures.node in
    let top : link_height c.args.link ≡ c.in-Some.child.height = ap link_height c.in-Some.is in
    omega (arith, low.right)

pub balance-requires-then-node-first-clause-counts : goal.balance-requires-then-node-first-clause-counts
balance-requires-then-node-first-clause-counts t c =
    let st = c.requires.stands in
    let holds : Holds c.args.nodes.now (Some c.in-Some.child) st.shape = record { leads = sym c.in-Some.is ∙ st.holds.leads; held = st.holds.held; once = st.holds.once } in
    let o = opened c.args.nodes.now c.in-Some.child c.read-node.result st.shape holds.leads holds.held c.read-node.ensures.node in
    let low = low_links c.args.nodes.now c.in-Some.child c.read-node.result st.shape holds.leads holds.held c.read-node.ensures.node in
    let top : link_height c.args.link ≡ c.in-Some.child.height = ap link_height c.in-Some.is in
    omega (arith, low.right)

pub returns-then-node-first-clause-removes : goal.returns-then-node-first-clause-removes
returns-then-node-first-clause-removes t c = λ t' given.
    let holds : Holds c.args.nodes.now (Some c.in-Some.child) t' = record { leads = sym c.in-Some.is ∙ given.leads; held = given.held; once = given.once } in
    let o = opened c.args.nodes.now c.in-Some.child c.read-node.result t' holds.leads holds.held c.read-node.ensures.node in
    Becomes-without_right c.args.nodes.now c.remove_at-right.new.nodes c.in-Some.child c.read-node.result c.args.first t' c.remove_at-right.result holds c.read-node.ensures.node o c.balance-then-node-first.new.nodes c.balance-then-node-first.result c.if-node-first.true (c.remove_at-right.ensures.removes o.r (holds_right c.args.nodes.now c.in-Some.child c.read-node.result t' holds c.read-node.ensures.node o)) c.balance-then-node-first.ensures.becomes

pub returns-then-node-first-clause-high : goal.returns-then-node-first-clause-high
returns-then-node-first-clause-high t c =
    let st = c.requires.stands in
    let holds : Holds c.args.nodes.now (Some c.in-Some.child) st.shape = record { leads = sym c.in-Some.is ∙ st.holds.leads; held = st.holds.held; once = st.holds.once } in
    let o = opened c.args.nodes.now c.in-Some.child c.read-node.result st.shape holds.leads holds.held c.read-node.ensures.node in
    height-without_link c.args.nodes.now c.balance-then-node-first.new.nodes c.args.first st.shape c.args.link c.balance-then-node-first.result st.holds.leads
    (Becomes-without_right c.args.nodes.now c.remove_at-right.new.nodes c.in-Some.child c.read-node.result c.args.first st.shape c.remove_at-right.result holds c.read-node.ensures.node o c.balance-then-node-first.new.nodes c.balance-then-node-first.result c.if-node-first.true (c.remove_at-right.ensures.removes o.r (holds_right c.args.nodes.now c.in-Some.child c.read-node.result st.shape holds c.read-node.ensures.node o)) c.balance-then-node-first.ensures.becomes)

pub returns-then-node-first-clause-len : goal.returns-then-node-first-clause-len
returns-then-node-first-clause-len t c = λ t' given.
    let holds : Holds c.args.nodes.now (Some c.in-Some.child) t' = record { leads = sym c.in-Some.is ∙ given.leads; held = given.held; once = given.once } in
    let o = opened c.args.nodes.now c.in-Some.child c.read-node.result t' holds.leads holds.held c.read-node.ensures.node in
    let below = (c.remove_at-right.ensures.len o.r (holds_right c.args.nodes.now c.in-Some.child c.read-node.result t' holds c.read-node.ensures.node o)) in
    let room = c.balance-then-node-first.ensures.room.len in
    omega (arith, length-without_right c.args.first c.in-Some.child.key t' o.l c.read-node.result.mapping o.r o.is c.if-node-first.true)

pub returns-then-node-first-clause-counted : goal.returns-then-node-first-clause-counted
returns-then-node-first-clause-counted t c =
    let st = c.requires.stands in
    let holds : Holds c.args.nodes.now (Some c.in-Some.child) st.shape = record { leads = sym c.in-Some.is ∙ st.holds.leads; held = st.holds.held; once = st.holds.once } in
    let o = opened c.args.nodes.now c.in-Some.child c.read-node.result st.shape holds.leads holds.held c.read-node.ensures.node in
    let low = low_links c.args.nodes.now c.in-Some.child c.read-node.result st.shape holds.leads holds.held c.read-node.ensures.node in
    let top : link_height c.args.link ≡ c.in-Some.child.height = ap link_height c.in-Some.is in
    omega (arith, low.right)

pub merge-requires-clause-beside : goal.merge-requires-clause-beside
merge-requires-clause-beside t c =
    let st = c.requires.stands in
    let holds : Holds c.args.nodes.now (Some c.in-Some.child) st.shape = record { leads = sym c.in-Some.is ∙ st.holds.leads; held = st.holds.held; once = st.holds.once } in
    let o = opened c.args.nodes.now c.in-Some.child c.read-node.result st.shape holds.leads holds.held c.read-node.ensures.node in
    record { l = o.l; r = o.r; beside = Beside-taken c.args.nodes.now c.take.new.self c.in-Some.child c.read-node.result c.args.first st.shape c.args.link holds c.read-node.ensures.node o c.take.ensures.updates }

pub merge-requires-clause-left_low : goal.merge-requires-clause-left_low
merge-requires-clause-left_low t c =
    let st = c.requires.stands in
    let holds : Holds c.args.nodes.now (Some c.in-Some.child) st.shape = record { leads = sym c.in-Some.is ∙ st.holds.leads; held = st.holds.held; once = st.holds.once } in
    let o = opened c.args.nodes.now c.in-Some.child c.read-node.result st.shape holds.leads holds.held c.read-node.ensures.node in
    let low = low_links c.args.nodes.now c.in-Some.child c.read-node.result st.shape holds.leads holds.held c.read-node.ensures.node in
    let top : link_height c.args.link ≡ c.in-Some.child.height = ap link_height c.in-Some.is in
    omega (arith, low.left)

pub merge-requires-clause-counts : goal.merge-requires-clause-counts
merge-requires-clause-counts t c =
    let st = c.requires.stands in
    let holds : Holds c.args.nodes.now (Some c.in-Some.child) st.shape = record { leads = sym c.in-Some.is ∙ st.holds.leads; held = st.holds.held; once = st.holds.once } in
    let o = opened c.args.nodes.now c.in-Some.child c.read-node.result st.shape holds.leads holds.held c.read-node.ensures.node in
    let low = low_links c.args.nodes.now c.in-Some.child c.read-node.result st.shape holds.leads holds.held c.read-node.ensures.node in
    let top : link_height c.args.link ≡ c.in-Some.child.height = ap link_height c.in-Some.is in
    omega (arith, low.right)

pub returns-else-node-first-clause-removes : goal.returns-else-node-first-clause-removes
returns-else-node-first-clause-removes t c = λ t' given.
    let holds : Holds c.args.nodes.now (Some c.in-Some.child) t' = record { leads = sym c.in-Some.is ∙ given.leads; held = given.held; once = given.once } in
    let o = opened c.args.nodes.now c.in-Some.child c.read-node.result t' holds.leads holds.held c.read-node.ensures.node in
    Becomes-without_here c.args.nodes.now c.take.new.self c.in-Some.child c.read-node.result c.args.first t' c.args.link holds c.read-node.ensures.node o c.merge.new.nodes c.merge.result c.if-first-node.false c.if-node-first.false c.take.ensures.updates c.merge.ensures.merges

pub returns-else-node-first-clause-high : goal.returns-else-node-first-clause-high
returns-else-node-first-clause-high t c =
    let st = c.requires.stands in
    let holds : Holds c.args.nodes.now (Some c.in-Some.child) st.shape = record { leads = sym c.in-Some.is ∙ st.holds.leads; held = st.holds.held; once = st.holds.once } in
    let o = opened c.args.nodes.now c.in-Some.child c.read-node.result st.shape holds.leads holds.held c.read-node.ensures.node in
    height-without_link c.args.nodes.now c.merge.new.nodes c.args.first st.shape c.args.link c.merge.result st.holds.leads
    (Becomes-without_here c.args.nodes.now c.take.new.self c.in-Some.child c.read-node.result c.args.first st.shape c.args.link holds c.read-node.ensures.node o c.merge.new.nodes c.merge.result c.if-first-node.false c.if-node-first.false c.take.ensures.updates c.merge.ensures.merges)

pub returns-else-node-first-clause-len : goal.returns-else-node-first-clause-len
returns-else-node-first-clause-len t c = λ t' given.
    let holds : Holds c.args.nodes.now (Some c.in-Some.child) t' = record { leads = sym c.in-Some.is ∙ given.leads; held = given.held; once = given.once } in
    let o = opened c.args.nodes.now c.in-Some.child c.read-node.result t' holds.leads holds.held c.read-node.ensures.node in
    let room = c.merge.ensures.room.len in
    omega (arith, length-without_here c.args.first c.in-Some.child.key t' o.l c.read-node.result.mapping o.r o.is c.if-first-node.false c.if-node-first.false)

pub returns-else-node-first-clause-counted : goal.returns-else-node-first-clause-counted
returns-else-node-first-clause-counted t c =
    let st = c.requires.stands in
    let holds : Holds c.args.nodes.now (Some c.in-Some.child) st.shape = record { leads = sym c.in-Some.is ∙ st.holds.leads; held = st.holds.held; once = st.holds.once } in
    let o = opened c.args.nodes.now c.in-Some.child c.read-node.result st.shape holds.leads holds.held c.read-node.ensures.node in
    let low = low_links c.args.nodes.now c.in-Some.child c.read-node.result st.shape holds.leads holds.held c.read-node.ensures.node in
    let top : link_height c.args.link ≡ c.in-Some.child.height = ap link_height c.in-Some.is in
    omega (arith, low.right)
