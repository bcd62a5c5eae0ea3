use Rattle.std.proofs.Common.{sym, ap, ◌∙◌}
use Rattle.vi_lines.specs.declared.line.Who.TheVariants as who
use Rattle.vi_turns.specs.Views.{gave_back}
use Rattle.vi_run.specs.Taking.{word_for}
use Rattle.vi_run.proofs.Won.{busy_turned}
use Rattle.vi_run.proofs.Driving.{drives_no_page, drive_needs_lent, drives_lent, drive_due, drive_turned, drive_plays}
use Rattle.vi_run.proofs.drivers.driver_turn.Goals as goal

pub returns-in-Err-clause-turned : goal.returns-in-Err-clause-turned
returns-in-Err-clause-turned c =
    busy_turned c.args.pass.now c.try_control.new.pass (who.Driver c.args.driver.now.number) c.in-Err.busy 1 c.requires.idle
    (ap word_for (sym (drives_no_page c.args.pass.now c.args.driver.now c.requires.idle))) c.in-Err.ensures.busy

pub drive-turned-requires : goal.drive-turned-requires
drive-turned-requires c = drive_needs_lent c.args.pass.now c.args.driver.now c.in-Ok.control.value c.deref_mut.result.now c.deref_mut.ensures.value c.requires.idle c.requires.plays c.in-Ok.ensures.sound c.in-Ok.ensures.plan

pub give_control-requires-clause-due : goal.give_control-requires-clause-due
give_control-requires-clause-due c =
    drive_due c.args.pass.now c.try_control.new.pass.view c.args.driver.now c.in-Ok.control.value c.drive-turned.new.control c.drive-turned.new.driver c.drive-turned.result
    (drives_lent c.args.pass.now c.args.driver.now c.in-Ok.control.value c.deref_mut.result.now c.drive-turned.new.control c.drive-turned.new.driver c.drive-turned.result c.deref_mut.ensures.value c.requires.idle c.requires.plays c.in-Ok.ensures.plan c.drive-turned.ensures.turn c.drive-turned.ensures.plan) c.in-Ok.ensures.won

pub returns-clause-plays : goal.returns-clause-plays
returns-clause-plays c =
    drive_plays c.args.pass.now c.give_control.new.pass c.args.driver.now c.in-Ok.control.value c.drive-turned.new.control c.drive-turned.new.driver c.drive-turned.result
    (drives_lent c.args.pass.now c.args.driver.now c.in-Ok.control.value c.deref_mut.result.now c.drive-turned.new.control c.drive-turned.new.driver c.drive-turned.result c.deref_mut.ensures.value c.requires.idle c.requires.plays c.in-Ok.ensures.plan c.drive-turned.ensures.turn c.drive-turned.ensures.plan)
    (c.give_control.ensures.given ∙ ap gave_back c.in-Ok.ensures.won)

pub returns-clause-turned : goal.returns-clause-turned
returns-clause-turned c =
    drive_turned c.args.pass.now c.give_control.new.pass c.args.driver.now c.in-Ok.control.value c.drive-turned.new.control c.drive-turned.new.driver c.drive-turned.result
    (drives_lent c.args.pass.now c.args.driver.now c.in-Ok.control.value c.deref_mut.result.now c.drive-turned.new.control c.drive-turned.new.driver c.drive-turned.result c.deref_mut.ensures.value c.requires.idle c.requires.plays c.in-Ok.ensures.plan c.drive-turned.ensures.turn c.drive-turned.ensures.plan)
    (c.give_control.ensures.given ∙ ap gave_back c.in-Ok.ensures.won) c.give_control.ensures.placed
