use Rattle.vi_calls.proofs.Sounds.{are-sound}
use Rattle.vi_calls.proofs.calls.Calls.posted.Goals as goal

pub returns-clause-sound : goal.returns-clause-sound
returns-clause-sound c = rw (← c.self.view_is) (are-sound c.self.inside c.self.invariant)
