use Rattle.vi_calls.proofs.Sounds.{are-sound}
use Rattle.vi_calls.specs.Inner.{lists_or}
use Rattle.vi_calls.proofs.Known.{to-known}
use Rattle.vi_calls.proofs.Showing.{shows-calls}
use Rattle.vi_calls.proofs.calls.Calls.queue.Goals as goal

pub returns-clause-calls : goal.returns-clause-calls
returns-clause-calls c =
    let s = c.self.inside in
    let l = lists_or s.ring.lists in
    rw (← c.self.view_is) (to-known s.ring.lists _ (shows-calls s.submitted s.rows.items l c.self.invariant.tied))

pub returns-clause-sound : goal.returns-clause-sound
returns-clause-sound c = rw (← c.self.view_is) (are-sound c.self.inside c.self.invariant)
