use Rattle.std.proofs.Common.{arith}
use Rattle.vi_backend.proofs.Cascade.{has_line, has_access, parts_left, looked_from, stepped_own}
use Rattle.vi_backend.proofs.backend.Backend.access.Goals as goal

pub index-line-requires : goal.index-line-requires
index-line-requires c = let below = (rw (← c.self.view_is) at (has_access c.args.self.now c.requires).below) in omega (arith, below, c.self.inside.lines.ok.0)

pub parts-requires : goal.parts-requires
parts-requires c = (has_line c.args.self.now _ _ c.self.view_is c.requires c.self.invariant c.index-line.ensures).transfers

pub overflow_add-self-inside : goal.overflow_add-self-inside
overflow_add-self-inside c =
    let f = has_line c.args.self.now _ _ c.self.view_is c.requires c.self.invariant c.index-line.ensures in
    omega (arith, f.has.below, c.self.invariant.count)

pub transfer-done-requires-clause-transfer : goal.transfer-done-requires-clause-transfer
transfer-done-requires-clause-transfer c = (has_line c.args.self.now _ _ c.self.view_is c.requires c.self.invariant c.index-line.ensures).transfers

pub transfer-done-requires-clause-last : goal.transfer-done-requires-clause-last
transfer-done-requires-clause-last c = (has_line c.args.self.now _ _ c.self.view_is c.requires c.self.invariant c.index-line.ensures).part.within

pub step-requires-clause-accesses : goal.step-requires-clause-accesses
step-requires-clause-accesses c =
    let f = has_line c.args.self.now _ _ c.self.view_is c.requires c.self.invariant c.index-line.ensures in
    rw (looked_from _ _ _ _ c.self.view_is f c.look.ensures.seat) f.has.accesses

pub step-requires-clause-parts : goal.step-requires-clause-parts
step-requires-clause-parts c =
    let f = has_line c.args.self.now _ _ c.self.view_is c.requires c.self.invariant c.index-line.ensures in
    rw (looked_from _ _ _ _ c.self.view_is f c.look.ensures.seat, c.parts.ensures) (parts_left _ _ f)

pub step-requires-clause-line : goal.step-requires-clause-line
step-requires-clause-line c =
    let f = has_line c.args.self.now _ _ c.self.view_is c.requires c.self.invariant c.index-line.ensures in
    rw (looked_from _ _ _ _ c.self.view_is f c.look.ensures.seat) f.has.below

pub step-requires-clause-closed : goal.step-requires-clause-closed
step-requires-clause-closed c =
    let f = has_line c.args.self.now _ _ c.self.view_is c.requires c.self.invariant c.index-line.ensures in
    rw (looked_from _ _ _ _ c.self.view_is f c.look.ensures.seat) f.has.closed

pub returns-clause-page : goal.returns-clause-page
returns-clause-page c =
    let f = has_line c.args.self.now _ _ c.self.view_is c.requires c.self.invariant c.index-line.ensures in
    rw (← c.self.view_is, f.has.wish) (rw f.part.access at c.transfer-done.ensures.page)

pub returns-clause-seat : goal.returns-clause-seat
returns-clause-seat c =
    let f = has_line c.args.self.now _ _ c.self.view_is c.requires c.self.invariant c.index-line.ensures in
    rw (← c.self.view_is, f.has.wish) (stepped_own _ _ _ _ f (looked_from _ _ _ _ c.self.view_is f c.look.ensures.seat) (rw (c.parts.ensures) at c.step.ensures.seat))

pub returns-clause-mark : goal.returns-clause-mark
returns-clause-mark c =
    let f = has_line c.args.self.now _ _ c.self.view_is c.requires c.self.invariant c.index-line.ensures in
    rw (← c.self.view_is, f.has.wish) (rw f.part.access at c.transfer-done.ensures.mark)

pub returns-clause-bytes : goal.returns-clause-bytes
returns-clause-bytes c =
    let f = has_line c.args.self.now _ _ c.self.view_is c.requires c.self.invariant c.index-line.ensures in
    rw (← c.self.view_is, f.has.wish) (rw f.part.access at c.transfer-done.ensures.bytes)
