use Rattle.std.proofs.Common.{sym, ◌∙◌}
use Rattle.vi_control.specs.Inner.{seen}
use Rattle.vi_control.proofs.Working.{planned_ids, work_is, finish_ready, idle_waits}
use Rattle.vi_control.proofs.control.Control.next.Goals as goal

pub returns-clause-work : goal.returns-clause-work
returns-clause-work c = rw (← c.self.view_is) (λ s e. c.next_work.ensures ∙ sym (work_is s c.self.inside (planned_ids s (seen c.self.inside).plan e)))

pub returns-clause-idle : goal.returns-clause-idle
returns-clause-idle c =
    rw (← c.self.view_is) (λ idle s e. idle_waits s (seen c.self.inside).state (work_is s c.self.inside (planned_ids s (seen c.self.inside).plan e) ∙ (sym c.next_work.ensures ∙ idle)))

pub returns-clause-ready : goal.returns-clause-ready
returns-clause-ready c = rw (← c.self.view_is) (λ finish. finish_ready _ _ _ _ _ (sym c.next_work.ensures ∙ finish))
