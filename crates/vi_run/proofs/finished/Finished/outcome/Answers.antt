use Rattle.std.proofs.Common.{ℕ, List, subst, sym}
use Rattle.std.proofs.lemmas.Result.{IfOk-weaker}
use Rattle.vi_log.specs.Logs.{LogValue, AreTicketed, IsMerged}
use Rattle.vi_history.specs.Outcomes.{IsWellMade}
use Rattle.vi_run.specs.Runs.{FinishedValue, CameTo}
use Rattle.vi_run.proofs.Outcome.{ticketed, few_entries, came_to, came_made}
use Rattle.vi_run.proofs.finished.Finished.outcome.Goals as goal

pub merge-requires : goal.merge-requires
merge-requires c = subst (λ (ls : List LogValue). (n : ℕ) × AreTicketed n ls) (sym c.deref.ensures.value) (ticketed _ c.self.invariant)

pub outcome_of-requires : goal.outcome_of-requires
outcome_of-requires c =
    few_entries _ c.in_ok-entries.entries.items c.self.invariant (subst (λ (ls : List LogValue). IsMerged ls c.in_ok-entries.entries.items) c.deref.ensures.value c.in_ok-entries.ensures)

pub returns-clause-outcome : goal.returns-clause-outcome
returns-clause-outcome c =
    let merged = subst (λ (ls : List LogValue). IsMerged ls c.in_ok-entries.entries.items) c.deref.ensures.value c.in_ok-entries.ensures in
    IfOk-weaker c.outcome_of.result _ (λ o. CameTo c.args.self.now o) (λ o is.
    subst (λ (f : FinishedValue). CameTo f o) c.self.view_is
    (came_to _ c.in_ok-entries.entries.items c.shown.result.now c.dropped.result o c.self.invariant merged c.shown.ensures c.dropped.ensures is)) c.outcome_of.ensures

pub returns-clause-made : goal.returns-clause-made
returns-clause-made c = IfOk-weaker c.outcome_of.result (λ o. CameTo c.args.self.now o) IsWellMade (λ o came. came_made _ o came) (returns-clause-outcome c)
