use Rattle.vi_core.specs.Inner.{parts_of}
use Rattle.vi_core.proofs.Moving.{reader_moves, as_turn}
use Rattle.vi_core.proofs.world.World.reader_turn.Goals as goal

pub invariant_of-self : goal.invariant_of-self
invariant_of-self c = (reader_moves (parts_of c.self.inside) c.read_event.new.control c.read_event.result c.self.invariant (rw (c.has_events-events.ensures) at c.read_event.ensures)).kept

pub returns : goal.returns
returns c = rw (← c.self.view_is) (as_turn _ _ _ _ (reader_moves (parts_of c.self.inside) c.read_event.new.control c.read_event.result c.self.invariant (rw (c.has_events-events.ensures) at c.read_event.ensures)))
