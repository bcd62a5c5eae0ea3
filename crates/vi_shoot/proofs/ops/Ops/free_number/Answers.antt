use Rattle.std.proofs.Common.{arith, sym, ◌∙◌}
use Rattle.vi_shoot.proofs.Numbers.{taken-below, free_number-is}
use Rattle.vi_shoot.proofs.ops.Ops.free_number.Goals as goal

pub overflow_add-number : goal.overflow_add-number
overflow_add-number c =
    let few = taken-below c.loop-number.number c.args.self.now c.loop-number.invariant in
    omega arith

pub loop-number-smaller : goal.loop-number-smaller
loop-number-smaller c =
    let few = taken-below c.loop-number.number c.args.self.now c.loop-number.invariant in
    omega arith

pub returns-clause-number : goal.returns-clause-number
returns-clause-number c =
    let few = taken-below c.loop-number.number c.args.self.now c.loop-number.invariant in
    sym (free_number-is c.loop-number.number c.args.self.now (omega arith) (sym c.has_number.ensures ∙ c.loop-number-test.false) c.loop-number.invariant)

pub returns-clause-below : goal.returns-clause-below
returns-clause-below c =
    let few = taken-below c.loop-number.number c.args.self.now c.loop-number.invariant in
    omega arith
