use Rattle.std.proofs.Common.{◌≡◌, Some, None, arith, sym, ap, ◌∙◌}
use Rattle.vi_tree.specs.Shapes.{Branch, link_height}
use Rattle.vi_tree.specs.Moves.{lowest}
use Rattle.vi_tree.specs.Held.{Beside}
use Rattle.vi_tree.proofs.RemoveLemmas.{branch_of, holds_beside, Sides-merged, Contains-merged, Becomes-merged_leaf, Becomes-merged_branch}
use Rattle.vi_tree.proofs.remove.merge.Goals as goal

pub detach_lowest-lowest-requires-clause-stands : goal.detach_lowest-lowest-requires-clause-stands
detach_lowest-lowest-requires-clause-stands c =
    let h = c.requires.beside in
    let beside : Beside c.args.nodes.now c.args.left (Some c.in-Some.child) h.l h.r = record { leads_left = h.beside.leads_left; leads_right = sym c.in-Some.is ∙ h.beside.leads_right; left_held = h.beside.left_held; right_held = h.beside.right_held; once = h.beside.once } in
    let b = branch_of c.in-Some.child h.r beside.leads_right in
    record { shape = Branch c.in-Some.child.key b.a b.x b.b; holds = holds_beside c.args.nodes.now c.args.nodes.now c.args.left c.in-Some.child h.l h.r 0 b.x None beside b }

pub detach_lowest-lowest-requires-clause-counts : goal.detach_lowest-lowest-requires-clause-counts
detach_lowest-lowest-requires-clause-counts c =
    let top : link_height c.args.right ≡ c.in-Some.child.height = ap link_height c.in-Some.is in
    omega arith

pub balance-requires-clause-there : goal.balance-requires-clause-there
balance-requires-clause-there c =
    let h = c.requires.beside in
    let beside : Beside c.args.nodes.now c.args.left (Some c.in-Some.child) h.l h.r = record { leads_left = h.beside.leads_left; leads_right = sym c.in-Some.is ∙ h.beside.leads_right; left_held = h.beside.left_held; right_held = h.beside.right_held; once = h.beside.once } in
    let b = branch_of c.in-Some.child h.r beside.leads_right in
    Contains-merged c.args.nodes.now c.detach_lowest-lowest.new.nodes c.args.left c.in-Some.child h.l h.r c.detach_lowest-lowest.result.key c.detach_lowest-lowest.result.mapping c.detach_lowest-lowest.result.rest beside b (c.detach_lowest-lowest.ensures.detaches b.a b.x b.b (holds_beside c.args.nodes.now c.detach_lowest-lowest.new.nodes c.args.left c.in-Some.child h.l h.r c.detach_lowest-lowest.result.key c.detach_lowest-lowest.result.mapping c.detach_lowest-lowest.result.rest beside b))

pub balance-requires-clause-sides : goal.balance-requires-clause-sides
balance-requires-clause-sides c =
    let h = c.requires.beside in
    let beside : Beside c.args.nodes.now c.args.left (Some c.in-Some.child) h.l h.r = record { leads_left = h.beside.leads_left; leads_right = sym c.in-Some.is ∙ h.beside.leads_right; left_held = h.beside.left_held; right_held = h.beside.right_held; once = h.beside.once } in
    let b = branch_of c.in-Some.child h.r beside.leads_right in
    record { l = h.l; r = (lowest c.in-Some.child.key b.a b.x b.b).rest; sides = Sides-merged c.args.nodes.now c.detach_lowest-lowest.new.nodes c.args.left c.in-Some.child h.l h.r c.detach_lowest-lowest.result.key c.detach_lowest-lowest.result.mapping c.detach_lowest-lowest.result.rest beside b (c.detach_lowest-lowest.ensures.detaches b.a b.x b.b (holds_beside c.args.nodes.now c.detach_lowest-lowest.new.nodes c.args.left c.in-Some.child h.l h.r c.detach_lowest-lowest.result.key c.detach_lowest-lowest.result.mapping c.detach_lowest-lowest.result.rest beside b)) }

pub balance-requires-clause-right_low : goal.balance-requires-clause-right_low
balance-requires-clause-right_low c =
    let top : link_height c.args.right ≡ c.in-Some.child.height = ap link_height c.in-Some.is in
    omega arith

pub balance-requires-clause-counts : goal.balance-requires-clause-counts
balance-requires-clause-counts c =
    let top : link_height c.args.right ≡ c.in-Some.child.height = ap link_height c.in-Some.is in
    omega arith

pub returns-in-None-clause-merges : goal.returns-in-None-clause-merges
returns-in-None-clause-merges c = λ l r beside.
    Becomes-merged_leaf c.args.nodes.now c.args.left l r (record { leads_left = beside.leads_left; leads_right = sym c.in-None.is ∙ beside.leads_right; left_held = beside.left_held; right_held = beside.right_held; once = beside.once })

pub returns-in-Some-clause-merges : goal.returns-in-Some-clause-merges
returns-in-Some-clause-merges c = λ l r given.
    let beside : Beside c.args.nodes.now c.args.left (Some c.in-Some.child) l r = record { leads_left = given.leads_left; leads_right = sym c.in-Some.is ∙ given.leads_right; left_held = given.left_held; right_held = given.right_held; once = given.once } in
    Becomes-merged_branch c.args.nodes.now c.detach_lowest-lowest.new.nodes c.args.left c.in-Some.child l r c.detach_lowest-lowest.result.key c.detach_lowest-lowest.result.mapping c.detach_lowest-lowest.result.rest beside c.balance.new.nodes c.balance.result c.detach_lowest-lowest.ensures.detaches c.balance.ensures.becomes

pub returns-in-Some-clause-counted : goal.returns-in-Some-clause-counted
returns-in-Some-clause-counted c =
    let top : link_height c.args.right ≡ c.in-Some.child.height = ap link_height c.in-Some.is in
    omega arith
