use Rattle.std.proofs.Common.{ap, ◌∙◌}
use Rattle.vi_turns.specs.Views.{gave_back}
use Rattle.vi_run.proofs.Conversing.{converse_needs_lent, converses_lent, converse_due, converse_turned, converse_plays}
use Rattle.vi_run.proofs.backs.converse_turn.Goals as goal

pub converse-turned-requires : goal.converse-turned-requires
converse-turned-requires g c =
    record { room = converse_needs_lent c.args.pass.now c.args.place c.args.back.now c.in-Ok.control.value c.deref_mut.result.now c.deref_mut.ensures.value c.requires.idle c.requires.plays c.in-Ok.ensures.sound c.in-Ok.ensures.plan }

pub give_control-requires-clause-due : goal.give_control-requires-clause-due
give_control-requires-clause-due g c =
    converse_due c.args.pass.now c.args.place c.args.back.now c.in-Ok.control.value c.converse-turned.new.control c.converse-turned.new.back c.converse-turned.result
    (converses_lent c.args.pass.now c.args.place c.args.back.now c.in-Ok.control.value c.deref_mut.result.now c.converse-turned.new.control c.converse-turned.new.back c.converse-turned.result
    c.deref_mut.ensures.value c.requires.idle c.requires.plays c.in-Ok.ensures.plan c.converse-turned.ensures.turn c.converse-turned.ensures.own c.converse-turned.ensures.plan)
    c.try_control.new.pass.view c.in-Ok.ensures.won

pub returns-clause-plays : goal.returns-clause-plays
returns-clause-plays g c =
    converse_plays c.args.pass.now c.args.place c.args.back.now c.in-Ok.control.value c.converse-turned.new.control c.converse-turned.new.back c.converse-turned.result
    (converses_lent c.args.pass.now c.args.place c.args.back.now c.in-Ok.control.value c.deref_mut.result.now c.converse-turned.new.control c.converse-turned.new.back c.converse-turned.result
    c.deref_mut.ensures.value c.requires.idle c.requires.plays c.in-Ok.ensures.plan c.converse-turned.ensures.turn c.converse-turned.ensures.own c.converse-turned.ensures.plan)
    c.give_control.new.pass (c.give_control.ensures.given ∙ ap gave_back c.in-Ok.ensures.won)
    (c.give_control.ensures.same.entries ∙ c.in-Ok.ensures.same.entries) (c.give_control.ensures.same.bytes ∙ c.in-Ok.ensures.same.bytes)

pub returns-clause-turned : goal.returns-clause-turned
returns-clause-turned g c =
    converse_turned c.args.pass.now c.args.place c.args.back.now c.in-Ok.control.value c.converse-turned.new.control c.converse-turned.new.back c.converse-turned.result
    (converses_lent c.args.pass.now c.args.place c.args.back.now c.in-Ok.control.value c.deref_mut.result.now c.converse-turned.new.control c.converse-turned.new.back c.converse-turned.result
    c.deref_mut.ensures.value c.requires.idle c.requires.plays c.in-Ok.ensures.plan c.converse-turned.ensures.turn c.converse-turned.ensures.own c.converse-turned.ensures.plan)
    c.give_control.new.pass c.requires.wish (c.give_control.ensures.given ∙ ap gave_back c.in-Ok.ensures.won) c.give_control.ensures.placed
