use Rattle.std.proofs.Common.{◌≡◌, Some, None, arith, sym, ap, ◌∙◌}
use Rattle.vi_tree.specs.Shapes.{link_height}
use Rattle.vi_tree.specs.Moves.{inserted}
use Rattle.vi_tree.specs.Held.{Holds}
use Rattle.vi_tree.proofs.HeldLemmas.{opened, low_links}
use Rattle.vi_tree.proofs.PathLemmas.{holds_left, holds_right, absent_left, absent_right, Sides-inserted_left, Sides-inserted_right, Contains-inserted_left, Contains-inserted_right, Becomes-inserted_left, Becomes-inserted_right, Becomes-inserted_leaf, height-inserted_link}
use Rattle.vi_tree.proofs.insert.+insert_at.Goals as goal

pub returns-in-None-clause-links : goal.returns-in-None-clause-links
returns-in-None-clause-links t c = λ t' holds absent.
    Becomes-inserted_leaf c.args.nodes.now c.args.key c.args.m.now t' c.requires.leaf (record { leads = sym c.in-None.is ∙ holds.leads; held = holds.held; once = holds.once })

pub insert_at-left-requires : goal.insert_at-left-requires
insert_at-left-requires t c =
    let st = c.requires.stands in
    let holds : Holds c.args.nodes.now (Some c.in-Some.child) st.shape = record { leads = sym c.in-Some.is ∙ st.holds.leads; held = st.holds.held; once = st.holds.once } in
    let o = opened c.args.nodes.now c.in-Some.child c.read-node.result st.shape holds.leads holds.held c.read-node.ensures.node in
    let low = low_links c.args.nodes.now c.in-Some.child c.read-node.result st.shape holds.leads holds.held c.read-node.ensures.node in
    let top : link_height c.args.link ≡ c.in-Some.child.height = ap link_height c.in-Some.is in (
      omega (arith, c.decreases, low.left),
      (c.requires.leaf, (record { shape = o.l; holds = holds_left c.args.nodes.now c.in-Some.child c.read-node.result st.shape holds c.read-node.ensures.node o; absent = absent_left c.args.nodes.now c.args.nodes.now c.in-Some.child c.read-node.result c.args.key c.args.m.now st.shape None holds st.absent c.read-node.ensures.node o }, omega (arith, low.left))),
    )

pub balance-requires-clause-there : goal.balance-requires-clause-there
balance-requires-clause-there t c =
    let st = c.requires.stands in
    let holds : Holds c.args.nodes.now (Some c.in-Some.child) st.shape = record { leads = sym c.in-Some.is ∙ st.holds.leads; held = st.holds.held; once = st.holds.once } in
    let o = opened c.args.nodes.now c.in-Some.child c.read-node.result st.shape holds.leads holds.held c.read-node.ensures.node in
    let below = (c.insert_at-left.ensures.links o.l (holds_left c.args.nodes.now c.in-Some.child c.read-node.result st.shape holds c.read-node.ensures.node o) (absent_left c.args.nodes.now c.args.nodes.now c.in-Some.child c.read-node.result c.args.key c.args.m.now st.shape None holds st.absent c.read-node.ensures.node o)) in
    Contains-inserted_left c.args.nodes.now c.insert_at-left.new.nodes c.in-Some.child c.read-node.result c.args.key c.args.m.now st.shape c.insert_at-left.result holds st.absent c.read-node.ensures.node o below

pub balance-requires-clause-sides : goal.balance-requires-clause-sides
balance-requires-clause-sides t c =
    let st = c.requires.stands in
    let holds : Holds c.args.nodes.now (Some c.in-Some.child) st.shape = record { leads = sym c.in-Some.is ∙ st.holds.leads; held = st.holds.held; once = st.holds.once } in
    let o = opened c.args.nodes.now c.in-Some.child c.read-node.result st.shape holds.leads holds.held c.read-node.ensures.node in
    let below = (c.insert_at-left.ensures.links o.l (holds_left c.args.nodes.now c.in-Some.child c.read-node.result st.shape holds c.read-node.ensures.node o) (absent_left c.args.nodes.now c.args.nodes.now c.in-Some.child c.read-node.result c.args.key c.args.m.now st.shape None holds st.absent c.read-node.ensures.node o)) in
    record { l = inserted c.args.key c.args.m.now o.l; r = o.r; sides = Sides-inserted_left c.args.nodes.now c.insert_at-left.new.nodes c.in-Some.child c.read-node.result c.args.key c.args.m.now st.shape c.insert_at-left.result holds st.absent c.read-node.ensures.node o below }

pub returns-then-m-node-clause-links : goal.returns-then-m-node-clause-links
returns-then-m-node-clause-links t c = λ t' given absent.
    let holds : Holds c.args.nodes.now (Some c.in-Some.child) t' = record { leads = sym c.in-Some.is ∙ given.leads; held = given.held; once = given.once } in
    Becomes-inserted_left c.args.nodes.now c.insert_at-left.new.nodes c.in-Some.child c.read-node.result c.args.key c.args.m.now t' c.insert_at-left.result holds absent c.read-node.ensures.node c.balance.new.nodes c.balance.result c.if-m-node.true c.insert_at-left.ensures.links c.balance.ensures.becomes

pub returns-then-m-node-clause-high : goal.returns-then-m-node-clause-high
returns-then-m-node-clause-high t c =
    let st = c.requires.stands in
    let holds : Holds c.args.nodes.now (Some c.in-Some.child) st.shape = record { leads = sym c.in-Some.is ∙ st.holds.leads; held = st.holds.held; once = st.holds.once } in
    let o = opened c.args.nodes.now c.in-Some.child c.read-node.result st.shape holds.leads holds.held c.read-node.ensures.node in
    let all = Becomes-inserted_left c.args.nodes.now c.insert_at-left.new.nodes c.in-Some.child c.read-node.result c.args.key c.args.m.now st.shape c.insert_at-left.result holds st.absent c.read-node.ensures.node c.balance.new.nodes c.balance.result c.if-m-node.true c.insert_at-left.ensures.links c.balance.ensures.becomes in
    height-inserted_link c.args.nodes.now c.balance.new.nodes c.args.key c.args.m.now st.shape c.args.link c.balance.result st.holds.leads all

pub insert_at-right-requires : goal.insert_at-right-requires
insert_at-right-requires t c =
    let st = c.requires.stands in
    let holds : Holds c.args.nodes.now (Some c.in-Some.child) st.shape = record { leads = sym c.in-Some.is ∙ st.holds.leads; held = st.holds.held; once = st.holds.once } in
    let o = opened c.args.nodes.now c.in-Some.child c.read-node.result st.shape holds.leads holds.held c.read-node.ensures.node in
    let low = low_links c.args.nodes.now c.in-Some.child c.read-node.result st.shape holds.leads holds.held c.read-node.ensures.node in
    let top : link_height c.args.link ≡ c.in-Some.child.height = ap link_height c.in-Some.is in (
      omega (arith, c.decreases, low.right),
      (c.requires.leaf, (record { shape = o.r; holds = holds_right c.args.nodes.now c.in-Some.child c.read-node.result st.shape holds c.read-node.ensures.node o; absent = absent_right c.args.nodes.now c.args.nodes.now c.in-Some.child c.read-node.result c.args.key c.args.m.now st.shape None holds st.absent c.read-node.ensures.node o }, omega (arith, low.right))),
    )

pub balance-requires-else-m-node-clause-there : goal.balance-requires-else-m-node-clause-there
balance-requires-else-m-node-clause-there t c =
    let st = c.requires.stands in
    let holds : Holds c.args.nodes.now (Some c.in-Some.child) st.shape = record { leads = sym c.in-Some.is ∙ st.holds.leads; held = st.holds.held; once = st.holds.once } in
    let o = opened c.args.nodes.now c.in-Some.child c.read-node.result st.shape holds.leads holds.held c.read-node.ensures.node in
    let below = (c.insert_at-right.ensures.links o.r (holds_right c.args.nodes.now c.in-Some.child c.read-node.result st.shape holds c.read-node.ensures.node o) (absent_right c.args.nodes.now c.args.nodes.now c.in-Some.child c.read-node.result c.args.key c.args.m.now st.shape None holds st.absent c.read-node.ensures.node o)) in
    Contains-inserted_right c.args.nodes.now c.insert_at-right.new.nodes c.in-Some.child c.read-node.result c.args.key c.args.m.now st.shape c.insert_at-right.result holds st.absent c.read-node.ensures.node o below

pub balance-requires-else-m-node-clause-sides : goal.balance-requires-else-m-node-clause-sides
balance-requires-else-m-node-clause-sides t c =
    let st = c.requires.stands in
    let holds : Holds c.args.nodes.now (Some c.in-Some.child) st.shape = record { leads = sym c.in-Some.is ∙ st.holds.leads; held = st.holds.held; once = st.holds.once } in
    let o = opened c.args.nodes.now c.in-Some.child c.read-node.result st.shape holds.leads holds.held c.read-node.ensures.node in
    let below = (c.insert_at-right.ensures.links o.r (holds_right c.args.nodes.now c.in-Some.child c.read-node.result st.shape holds c.read-node.ensures.node o) (absent_right c.args.nodes.now c.args.nodes.now c.in-Some.child c.read-node.result c.args.key c.args.m.now st.shape None holds st.absent c.read-node.ensures.node o)) in
    record { l = o.l; r = inserted c.args.key c.args.m.now o.r; sides = Sides-inserted_right c.args.nodes.now c.insert_at-right.new.nodes c.in-Some.child c.read-node.result c.args.key c.args.m.now st.shape c.insert_at-right.result holds st.absent c.read-node.ensures.node o below }

pub returns-else-m-node-clause-links : goal.returns-else-m-node-clause-links
returns-else-m-node-clause-links t c = λ t' given absent.
    let holds : Holds c.args.nodes.now (Some c.in-Some.child) t' = record { leads = sym c.in-Some.is ∙ given.leads; held = given.held; once = given.once } in
    Becomes-inserted_right c.args.nodes.now c.insert_at-right.new.nodes c.in-Some.child c.read-node.result c.args.key c.args.m.now t' c.insert_at-right.result holds absent c.read-node.ensures.node c.balance-else-m-node.new.nodes c.balance-else-m-node.result c.if-m-node.false c.insert_at-right.ensures.links c.balance-else-m-node.ensures.becomes

pub returns-else-m-node-clause-high : goal.returns-else-m-node-clause-high
returns-else-m-node-clause-high t c =
    let st = c.requires.stands in
    let holds : Holds c.args.nodes.now (Some c.in-Some.child) st.shape = record { leads = sym c.in-Some.is ∙ st.holds.leads; held = st.holds.held; once = st.holds.once } in
    let o = opened c.args.nodes.now c.in-Some.child c.read-node.result st.shape holds.leads holds.held c.read-node.ensures.node in
    let all = Becomes-inserted_right c.args.nodes.now c.insert_at-right.new.nodes c.in-Some.child c.read-node.result c.args.key c.args.m.now st.shape c.insert_at-right.result holds st.absent c.read-node.ensures.node c.balance-else-m-node.new.nodes c.balance-else-m-node.result c.if-m-node.false c.insert_at-right.ensures.links c.balance-else-m-node.ensures.becomes in
    height-inserted_link c.args.nodes.now c.balance-else-m-node.new.nodes c.args.key c.args.m.now st.shape c.args.link c.balance-else-m-node.result st.holds.leads all
