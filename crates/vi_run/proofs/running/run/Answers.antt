use Rattle.std.proofs.Common.{◌≡◌, List, length, sym, ap, ◌∙◌, subst}
use Rattle.vi_run.specs.Actors.{ActorValue}
use Rattle.vi_run.specs.Runs.{AreActors}
use Rattle.vi_run.proofs.Keeping.{came_back}
use Rattle.vi_run.proofs.running.run.Goals as goal

pub take_round-pays-requires-clause-actors : goal.take_round-pays-requires-clause-actors
take_round-pays-requires-clause-actors g c κs within = subst (AreActors c.opened.inside.shared) (sym c.deref_mut.ensures.value) c.loop-round.invariant.each

pub loop-round-preserved : goal.loop-round-preserved
loop-round-preserved g c =
    let same : length c.take_round-pays.new.actors ≡ length c.loop-round.actors.items = c.take_round-pays.ensures.length ∙ ap (λ (xs : List ActorValue). length xs) c.deref_mut.ensures.value in
    let back = came_back c.loop-round.actors.items c.take_round-pays.new.actors c.loop-round.actors.len same c.loop-round.actors.ok.0 in
    record {
      each = subst (AreActors c.opened.inside.shared) (sym back) c.take_round-pays.ensures.actors;
      count = ap (λ (xs : List ActorValue). length xs) back ∙ (same ∙ c.loop-round.invariant.count);
    }
