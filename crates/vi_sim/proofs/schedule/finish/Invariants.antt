use Rattle.std.proofs.Common.{◌≡◌}
use Rattle.vi_model.specs.Rounds.{actors}
use Rattle.vi_model.specs.Bound.{measure}
use Rattle.vi_sim.specs.Simulated.{after_rounds}
use Rattle.vi_sim.proofs.schedule.finish.Given as goal

abbrev pub invariant-loop-world : goal.invariant-loop-world
invariant-loop-world l = record {
  round : l.round ≡ actors l.world.script;
  same : after_rounds l.world ≡ after_rounds l.initial.world;
}

abbrev pub decreases-loop-world : goal.decreases-loop-world
decreases-loop-world l = measure l.world.script l.world.world
