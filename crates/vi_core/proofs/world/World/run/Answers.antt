use Rattle.std.proofs.Common.{ap₂, sym, ◌∙◌, get_or}
use Rattle.vi_lines.specs.declared.line.Who.TheVariants as who
use Rattle.vi_model.specs.Turns.{Turn, turn}
use Rattle.vi_core.proofs.Ran.{run_next}
use Rattle.vi_core.proofs.world.World.run.Goals as goal

pub loop-who-preserved : goal.loop-who-preserved
loop-who-preserved c = record {
  script = c.turn.ensures.turn.script ∙ c.loop-who.invariant.script;
  world =
      c.turn.ensures.turn.world
      ∙ ap₂ (λ s w. let x : Turn = turn s w (get_or c.args.turns.now c.loop-who.who-index (who.Driver 0)) in x.world) c.loop-who.invariant.script c.loop-who.invariant.world
      ∙ sym (run_next c.args.self.now.script c.args.self.now.world c.args.turns.now c.loop-who.who-index (who.Driver 0) c.loop-who-test.true);
}
