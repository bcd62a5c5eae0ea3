use Rattle.vi_core.specs.Inner.{parts_of}
use Rattle.vi_core.proofs.Moving.{served_room, device_made, device_quiet, as_turn}
use Rattle.vi_core.proofs.Needs.{serve_needs}
use Rattle.vi_core.proofs.world.World.device_turn.Goals as goal

pub serve-served-requires : goal.serve-served-requires
serve-served-requires c = serve_needs (parts_of c.self.inside) c.self.invariant

pub push-requires-clause-entry : goal.push-requires-clause-entry
push-requires-clause-entry c = (served_room (parts_of c.self.inside) c.serve-served.new.control c.serve-served.result c.in-Some.mark c.self.invariant c.serve-served.ensures.turn c.in-Some.is).0

pub push-requires-clause-bytes : goal.push-requires-clause-bytes
push-requires-clause-bytes c =
    rw (c.answered.ensures) (served_room (parts_of c.self.inside) c.serve-served.new.control c.serve-served.result c.in-Some.mark c.self.invariant c.serve-served.ensures.turn c.in-Some.is).1

pub invariant_of-self : goal.invariant_of-self
invariant_of-self c =
    rw (c.push.ensures, c.answered.ensures)
    (device_made (parts_of c.self.inside) c.serve-served.new.control c.serve-served.result c.in-Some.mark c.self.invariant c.serve-served.ensures.turn c.serve-served.ensures.plan c.in-Some.is).kept

pub invariant_of-self-in_default : goal.invariant_of-self-in_default
invariant_of-self-in_default c =
    (device_quiet (parts_of c.self.inside) c.serve-served.new.control c.serve-served.result c.self.invariant c.serve-served.ensures.turn c.serve-served.ensures.plan c.in_default.is).kept

pub returns-in-Some : goal.returns-in-Some
returns-in-Some c =
    rw (← c.self.view_is, c.push.ensures, c.answered.ensures) (as_turn _ _ _ _
    (device_made (parts_of c.self.inside) c.serve-served.new.control c.serve-served.result c.in-Some.mark c.self.invariant c.serve-served.ensures.turn c.serve-served.ensures.plan c.in-Some.is))

pub returns-in_default : goal.returns-in_default
returns-in_default c =
    rw (← c.self.view_is) (as_turn _ _ _ _
    (device_quiet (parts_of c.self.inside) c.serve-served.new.control c.serve-served.result c.self.invariant c.serve-served.ensures.turn c.serve-served.ensures.plan c.in_default.is))
