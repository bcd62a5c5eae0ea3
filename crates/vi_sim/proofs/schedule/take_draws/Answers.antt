use Rattle.std.proofs.Common.{◌≡◌, ◌<◌, ◌-◌, ◌+◌, suc, length, arith, sym, ap, subst, ◌∙◌}
use Rattle.vi_sim.specs.Schedule.{next_draw, picked}
use Rattle.vi_sim.proofs.Drawn.{some_actors, turn_more}
use Rattle.vi_sim.proofs.schedule.take_draws.Goals as goal

pub picked-requires : goal.picked-requires
picked-requires c = subst (λ round. 0 < length round) (sym c.loop-number.invariant.round) (some_actors c.loop-number.world.script)

pub loop-number-preserved : goal.loop-number-preserved
loop-number-preserved c =
    let left : c.args.moves - c.loop-number.number ≡ suc (c.args.moves - (c.loop-number.number + 1)) = omega (arith, c.loop-number-test.true) in
    let named : c.picked.result ≡ picked c.args.round.now (next_draw c.loop-number.draw) = c.picked.ensures ∙ ap (λ x. picked c.args.round.now x) c.next_draw-draw.ensures in
    let more = turn_more c.loop-number.world c.turn-turned.new.self c.args.round.now c.loop-number.draw _ _ c.loop-number.invariant.round left c.turn-turned.ensures.turn.script (rw named at c.turn-turned.ensures.turn.world) in
    record { round = more.round_of; same = rw c.next_draw-draw.ensures (more.same ∙ c.loop-number.invariant.same) }
