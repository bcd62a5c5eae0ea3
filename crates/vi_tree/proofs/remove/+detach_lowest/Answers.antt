use Rattle.std.proofs.Common.{◌≡◌, Some, None, arith, ap, subst}
use Rattle.vi_tree.specs.Shapes.{Shape, Branch, link_height}
use Rattle.vi_tree.specs.Moves.{lowest}
use Rattle.vi_tree.specs.Held.{Holds}
use Rattle.vi_tree.proofs.HeldLemmas.{opened, low_links, ContainsKey-from_link}
use Rattle.vi_tree.proofs.RemoveLemmas.{branch_of, leads_below, holds_below, Sides-detached, Contains-detached, Detaches-leaf, Detaches-below, height-detached}
use Rattle.vi_tree.proofs.remove.+detach_lowest.Goals as goal

pub read-node-requires-clause-there : goal.read-node-requires-clause-there
read-node-requires-clause-there t c = ContainsKey-from_link c.args.nodes.now c.args.child c.requires.stands.shape c.requires.stands.holds.leads c.requires.stands.holds.held

pub detach_lowest-lowest-requires : goal.detach_lowest-lowest-requires
detach_lowest-lowest-requires t c =
    let st = c.requires.stands in
    let node = c.read-node.result in
    let o = opened c.args.nodes.now c.args.child node st.shape st.holds.leads st.holds.held c.read-node.ensures.node in
    let P : Shape → Type 0 = λ u. Holds c.args.nodes.now (Some c.args.child) u in
    let holds = subst P o.is st.holds in
    let low = low_links c.args.nodes.now c.args.child node st.shape st.holds.leads st.holds.held c.read-node.ensures.node in
    let top : link_height node.left ≡ c.in-Some.left.height = ap link_height c.in-Some.is in
    let b = branch_of c.in-Some.left o.l (leads_below c.args.nodes.now c.args.nodes.now c.args.child node c.in-Some.left o.l node.mapping o.r 0 node.mapping None holds c.read-node.ensures.node c.in-Some.is) in
    (omega (arith, c.decreases, low.left), (record { shape = Branch c.in-Some.left.key b.a b.x b.b; holds = holds_below c.args.nodes.now c.args.nodes.now c.args.child node c.in-Some.left o.l node.mapping o.r 0 node.mapping None holds c.read-node.ensures.node c.in-Some.is b }, omega (arith, low.left)))

pub balance-rest-requires-clause-there : goal.balance-rest-requires-clause-there
balance-rest-requires-clause-there t c =
    let st = c.requires.stands in
    let node = c.read-node.result in
    let o = opened c.args.nodes.now c.args.child node st.shape st.holds.leads st.holds.held c.read-node.ensures.node in
    let P : Shape → Type 0 = λ u. Holds c.args.nodes.now (Some c.args.child) u in
    let holds = subst P o.is st.holds in
    let b = branch_of c.in-Some.left o.l (leads_below c.args.nodes.now c.args.nodes.now c.args.child node c.in-Some.left o.l node.mapping o.r 0 node.mapping None holds c.read-node.ensures.node c.in-Some.is) in
    Contains-detached c.args.nodes.now c.detach_lowest-lowest.new.nodes c.args.child node c.in-Some.left o.l node.mapping o.r c.detach_lowest-lowest.result.key c.detach_lowest-lowest.result.mapping c.detach_lowest-lowest.result.rest holds c.read-node.ensures.node c.in-Some.is b (c.detach_lowest-lowest.ensures.detaches b.a b.x b.b (holds_below c.args.nodes.now c.detach_lowest-lowest.new.nodes c.args.child node c.in-Some.left o.l node.mapping o.r c.detach_lowest-lowest.result.key c.detach_lowest-lowest.result.mapping c.detach_lowest-lowest.result.rest holds c.read-node.ensures.node c.in-Some.is b))

pub balance-rest-requires-clause-sides : goal.balance-rest-requires-clause-sides
balance-rest-requires-clause-sides t c =
    let st = c.requires.stands in
    let node = c.read-node.result in
    let o = opened c.args.nodes.now c.args.child node st.shape st.holds.leads st.holds.held c.read-node.ensures.node in
    let P : Shape → Type 0 = λ u. Holds c.args.nodes.now (Some c.args.child) u in
    let holds = subst P o.is st.holds in
    let b = branch_of c.in-Some.left o.l (leads_below c.args.nodes.now c.args.nodes.now c.args.child node c.in-Some.left o.l node.mapping o.r 0 node.mapping None holds c.read-node.ensures.node c.in-Some.is) in
    record { l = (lowest c.in-Some.left.key b.a b.x b.b).rest; r = o.r; sides = Sides-detached c.args.nodes.now c.detach_lowest-lowest.new.nodes c.args.child node c.in-Some.left o.l node.mapping o.r c.detach_lowest-lowest.result.key c.detach_lowest-lowest.result.mapping c.detach_lowest-lowest.result.rest holds c.read-node.ensures.node c.in-Some.is b (c.detach_lowest-lowest.ensures.detaches b.a b.x b.b (holds_below c.args.nodes.now c.detach_lowest-lowest.new.nodes c.args.child node c.in-Some.left o.l node.mapping o.r c.detach_lowest-lowest.result.key c.detach_lowest-lowest.result.mapping c.detach_lowest-lowest.result.rest holds c.read-node.ensures.node c.in-Some.is b)) }

pub balance-rest-requires-clause-left_low : goal.balance-rest-requires-clause-left_low
balance-rest-requires-clause-left_low t c =
    let st = c.requires.stands in
    let node = c.read-node.result in
    let o = opened c.args.nodes.now c.args.child node st.shape st.holds.leads st.holds.held c.read-node.ensures.node in
    let P : Shape → Type 0 = λ u. Holds c.args.nodes.now (Some c.args.child) u in
    let holds = subst P o.is st.holds in
    let low = low_links c.args.nodes.now c.args.child node st.shape st.holds.leads st.holds.held c.read-node.ensures.node in
    let top : link_height node.left ≡ c.in-Some.left.height = ap link_height c.in-Some.is in
    omega (arith, low.left)

pub balance-rest-requires-clause-right_low : goal.balance-rest-requires-clause-right_low
balance-rest-requires-clause-right_low t c =
    let st = c.requires.stands in
    let node = c.read-node.result in
    let o = opened c.args.nodes.now c.args.child node st.shape st.holds.leads st.holds.held c.read-node.ensures.node in
    let P : Shape → Type 0 = λ u. Holds c.args.nodes.now (Some c.args.child) u in
    let holds = subst P o.is st.holds in
    let low = low_links c.args.nodes.now c.args.child node st.shape st.holds.leads st.holds.held c.read-node.ensures.node in
    omega (arith, low.right)

pub balance-rest-requires-clause-counts : goal.balance-rest-requires-clause-counts
balance-rest-requires-clause-counts t c =
    let st = c.requires.stands in
    let node = c.read-node.result in
    let o = opened c.args.nodes.now c.args.child node st.shape st.holds.leads st.holds.held c.read-node.ensures.node in
    let P : Shape → Type 0 = λ u. Holds c.args.nodes.now (Some c.args.child) u in
    let holds = subst P o.is st.holds in
    let low = low_links c.args.nodes.now c.args.child node st.shape st.holds.leads st.holds.held c.read-node.ensures.node in
    let top : link_height node.left ≡ c.in-Some.left.height = ap link_height c.in-Some.is in
    omega (arith, low.left)

pub returns-in-None-clause-detaches : goal.returns-in-None-clause-detaches
returns-in-None-clause-detaches t c = λ l m r holds. Detaches-leaf c.args.nodes.now c.args.child c.read-node.result l m r holds c.read-node.ensures.node c.in-None.is

pub returns-in-None-clause-high : goal.returns-in-None-clause-high
returns-in-None-clause-high t c =
    let st = c.requires.stands in
    let node = c.read-node.result in
    let o = opened c.args.nodes.now c.args.child node st.shape st.holds.leads st.holds.held c.read-node.ensures.node in
    let P : Shape → Type 0 = λ u. Holds c.args.nodes.now (Some c.args.child) u in
    let holds = subst P o.is st.holds in
    let low = low_links c.args.nodes.now c.args.child node st.shape st.holds.leads st.holds.held c.read-node.ensures.node in
    omega (arith, low.right)

pub returns-in-None-clause-counted : goal.returns-in-None-clause-counted
returns-in-None-clause-counted t c =
    let st = c.requires.stands in
    let node = c.read-node.result in
    let o = opened c.args.nodes.now c.args.child node st.shape st.holds.leads st.holds.held c.read-node.ensures.node in
    let P : Shape → Type 0 = λ u. Holds c.args.nodes.now (Some c.args.child) u in
    let holds = subst P o.is st.holds in
    let low = low_links c.args.nodes.now c.args.child node st.shape st.holds.leads st.holds.held c.read-node.ensures.node in
    omega (arith, low.right)

pub returns-in-Some-clause-detaches : goal.returns-in-Some-clause-detaches
returns-in-Some-clause-detaches t c = λ l m r holds.
    Detaches-below c.args.nodes.now c.detach_lowest-lowest.new.nodes c.args.child c.read-node.result c.in-Some.left l m r c.detach_lowest-lowest.result.key c.detach_lowest-lowest.result.mapping c.detach_lowest-lowest.result.rest holds c.read-node.ensures.node c.in-Some.is c.balance-rest.new.nodes c.balance-rest.result c.detach_lowest-lowest.ensures.detaches c.balance-rest.ensures.becomes

pub returns-in-Some-clause-high : goal.returns-in-Some-clause-high
returns-in-Some-clause-high t c =
    let st = c.requires.stands in
    let node = c.read-node.result in
    let o = opened c.args.nodes.now c.args.child node st.shape st.holds.leads st.holds.held c.read-node.ensures.node in
    let P : Shape → Type 0 = λ u. Holds c.args.nodes.now (Some c.args.child) u in
    let holds = subst P o.is st.holds in
    let all = Detaches-below c.args.nodes.now c.detach_lowest-lowest.new.nodes c.args.child node c.in-Some.left o.l node.mapping o.r c.detach_lowest-lowest.result.key c.detach_lowest-lowest.result.mapping c.detach_lowest-lowest.result.rest holds c.read-node.ensures.node c.in-Some.is c.balance-rest.new.nodes c.balance-rest.result c.detach_lowest-lowest.ensures.detaches c.balance-rest.ensures.becomes in
    height-detached c.args.nodes.now c.balance-rest.new.nodes c.args.child o.l node.mapping o.r c.detach_lowest-lowest.result.key c.detach_lowest-lowest.result.mapping c.balance-rest.result holds all

pub returns-in-Some-clause-counted : goal.returns-in-Some-clause-counted
returns-in-Some-clause-counted t c =
    let st = c.requires.stands in
    let node = c.read-node.result in
    let o = opened c.args.nodes.now c.args.child node st.shape st.holds.leads st.holds.held c.read-node.ensures.node in
    let P : Shape → Type 0 = λ u. Holds c.args.nodes.now (Some c.args.child) u in
    let holds = subst P o.is st.holds in
    let low = low_links c.args.nodes.now c.args.child node st.shape st.holds.leads st.holds.held c.read-node.ensures.node in
    let top : link_height node.left ≡ c.in-Some.left.height = ap link_height c.in-Some.is in
    omega (arith, low.left)
