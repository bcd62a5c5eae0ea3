use Rattle.std.proofs.Common.{◌≡◌, ◌-◌}
use Rattle.vi_model.specs.Rounds.{actors}
use Rattle.vi_sim.specs.Simulated.{after_draws}
use Rattle.vi_sim.proofs.schedule.take_draws.Given as goal

abbrev pub invariant-loop-number : goal.invariant-loop-number
invariant-loop-number l = record {
  round : l.round ≡ actors l.world.script;
  same : after_draws l.world l.draw (l.moves - l.number) ≡ after_draws l.initial.world l.generator_seed l.moves;
}
