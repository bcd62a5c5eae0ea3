use Rattle.std.proofs.Common.{arith}
use Rattle.vi_core.specs.Inner.{parts_of}
use Rattle.vi_core.proofs.Moving.{no_driver_rests, many_drivers, as_turn}
use Rattle.vi_core.proofs.Needs.{read_drives, read_driven}
use Rattle.vi_core.proofs.world.World.driver_turn.Goals as goal

pub returns-then-number-len : goal.returns-then-number-len
returns-then-number-len c =
    let p = parts_of c.self.inside in
    let many = many_drivers p c.self.invariant in
    rw (← c.self.view_is) (as_turn _ p p _ (no_driver_rests p c.args.number c.self.invariant (omega (arith, c.if-number-len.true, c.len.ensures, many))))

pub drive-requires : goal.drive-requires
drive-requires c =
    let many = many_drivers (parts_of c.self.inside) c.self.invariant in
    read_drives (parts_of c.self.inside) c.args.number c.index_mut.result.now c.self.invariant (omega (arith, c.if-number-len.false, c.len.ensures, many)) c.index_mut.ensures.value

pub invariant_of-self : goal.invariant_of-self
invariant_of-self c =
    let many = many_drivers (parts_of c.self.inside) c.self.invariant in
    (read_driven (parts_of c.self.inside) c.args.number c.index_mut.result.now c.drive.new.control c.drive.new.driver c.drive.result c.self.invariant (omega (arith, c.if-number-len.false, c.len.ensures, many))
    c.index_mut.ensures.value c.drive.ensures.turn c.drive.ensures.plan).kept

pub returns : goal.returns
returns c =
    let many = many_drivers (parts_of c.self.inside) c.self.invariant in
    rw (← c.self.view_is) (as_turn _ _ _ _
    (read_driven (parts_of c.self.inside) c.args.number c.index_mut.result.now c.drive.new.control c.drive.new.driver c.drive.result c.self.invariant (omega (arith, c.if-number-len.false, c.len.ensures, many))
    c.index_mut.ensures.value c.drive.ensures.turn c.drive.ensures.plan))
