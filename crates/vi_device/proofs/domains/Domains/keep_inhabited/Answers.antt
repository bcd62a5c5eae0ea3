use Rattle.std.proofs.Common.{refl, arith}
use Rattle.vi_device.proofs.domains.Domains.keep_inhabited.Goals as goal

pub invariant_of-self : goal.invariant_of-self
invariant_of-self c =
    (c.keep_inhabited.ensures.tables c.self.inside.maps c.self.invariant.0, omega (arith, c.self.invariant.1, c.keep_inhabited.ensures.held_room), omega (arith, c.self.invariant.2, c.keep_inhabited.ensures.unused_room))

pub returns-clause-kept : goal.returns-clause-kept
returns-clause-kept c = rw (c.keep_inhabited.ensures.kept, ← c.self.view_is) refl

pub returns-clause-distinct : goal.returns-clause-distinct
returns-clause-distinct c = rw (← c.self.view_is) c.self.invariant.0.distinct
