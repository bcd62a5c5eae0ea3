use Rattle.std.proofs.Common.{sym, ◌∙◌}
use Rattle.vi_sim.proofs.Finished.{IsRoundMore, round_more, rounds_over}
use Rattle.vi_sim.proofs.schedule.finish.Goals as goal

more : (c : goal.After-run) → IsRoundMore c.loop-world.world c.run.new.self c.args.round.now
more c =
    let unfinished = sym c.finished.ensures.finished ∙ c.loop-world-test.true in
    round_more c.loop-world.world c.run.new.self c.args.round.now c.finished.ensures.playable c.finished.ensures.well.sound unfinished c.loop-world.invariant.round c.run.ensures.script c.run.ensures.world

pub loop-world-smaller : goal.loop-world-smaller
loop-world-smaller c = (more c).less

pub loop-world-preserved : goal.loop-world-preserved
loop-world-preserved c = record { round = (more c).round_of; same = (more c).same ∙ c.loop-world.invariant.same }

pub returns : goal.returns
returns c = rounds_over c.loop-world.world (sym c.finished.ensures.finished ∙ c.loop-world-test.false) ∙ c.loop-world.invariant.same
