use Rattle.std.proofs.Common.{◌≡◌, ap, subst, ◌∙◌}
use Rattle.std.specs.Prelude.{IfOk}
use Rattle.vi_lines.specs.Value.{ScriptValue}
use Rattle.vi_sim.proofs.Simulated.{simulated_is}
use Rattle.vi_sim.proofs.schedule.sim.Goals as goal

pub returns-clause-outcome : goal.returns-clause-outcome
returns-clause-outcome c =
    let turns = c.deref.result.now in
    let own : turns ≡ c.args.script.turns = c.deref.ensures.value ∙ (c.in_ok-turns.ensures.items ∙ (c.as_slice.ensures ∙ ap (λ (v : ScriptValue). v.turns) c.script.view_is)) in
    let is = simulated_is c.args.script c.args.generator_seed c.args.moves turns c.in_ok-world.world c.run.new.self c.take_draws.new.world c.finish.new.world c.requires own c.in_ok-world.ensures c.run.ensures.script c.run.ensures.world c.take_draws.ensures c.finish.ensures in
    subst (λ o. IfOk c.outcome.result (λ x. x ≡ o)) is c.outcome.ensures.outcome
