use Rattle.vi_sound.proofs.Playable.{valid_is_playable}
use Rattle.vi_commands.proofs.WorkLemmas.{answers-sims}
use Rattle.vi_commands.proofs.work.sim.Goals as goal

pub sim-requires : goal.sim-requires
sim-requires c = valid_is_playable c.args.script c.requires.valid c.requires.fields

pub returns : goal.returns
returns c = λ input.
    let run = c.in_ok-outcome.ensures in
    answers-sims input c.args.script c.args.generator_seed c.args.moves c.in_ok-outcome.outcome c.report.result run.outcome run.made run.ordered run.legal run.records c.report.ensures.status c.report.ensures.text c.report.ensures.typed
