use Rattle.vi_control.proofs.Queues.{shows_state}
use Rattle.vi_control.proofs.control.Control.request_queue.Goals as goal

pub returns-clause-shows : goal.returns-clause-shows
returns-clause-shows c = rw (← c.self.view_is) (shows_state c.self.inside _ c.self.invariant.tied c.queue.ensures.calls)
