use Rattle.vi_control.proofs.control.Control.collect.Goals as goal

pub collect-requires-clause-once : goal.collect-requires-clause-once
collect-requires-clause-once c = rw (← c.self.view_is) at c.requires.once
