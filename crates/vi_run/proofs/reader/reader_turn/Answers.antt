use Rattle.std.proofs.Common.{sym, ap, ◌∙◌}
use Rattle.vi_lines.specs.declared.line.Who.TheVariants as who
use Rattle.vi_turns.specs.Views.{gave_back}
use Rattle.vi_run.specs.Taking.{word_for}
use Rattle.vi_run.proofs.Won.{busy_turned}
use Rattle.vi_run.proofs.Reading.{reads_no_page, reads_lent, read_due, read_turned}
use Rattle.vi_run.proofs.reader.reader_turn.Goals as goal

pub returns-in-Err-clause-turned : goal.returns-in-Err-clause-turned
returns-in-Err-clause-turned c =
    busy_turned c.args.pass.now c.try_control.new.pass who.Events c.in-Err.busy 1 c.requires.idle (ap word_for (sym (reads_no_page c.args.pass.now c.requires.idle))) c.in-Err.ensures.busy

pub give_control-requires-clause-due : goal.give_control-requires-clause-due
give_control-requires-clause-due c =
    read_due c.args.pass.now c.try_control.new.pass.view c.args.events c.in-Ok.control.value c.read_event-turned.new.control c.read_event-turned.result
    (reads_lent c.args.pass.now c.args.events c.in-Ok.control.value c.deref_mut.result.now c.read_event-turned.new.control c.read_event-turned.result c.deref_mut.ensures.value c.requires.idle c.requires.plays c.in-Ok.ensures.plan c.read_event-turned.ensures) c.in-Ok.ensures.won

pub returns-clause-turned : goal.returns-clause-turned
returns-clause-turned c =
    read_turned c.args.pass.now c.give_control.new.pass c.args.events c.in-Ok.control.value c.read_event-turned.new.control c.read_event-turned.result
    (reads_lent c.args.pass.now c.args.events c.in-Ok.control.value c.deref_mut.result.now c.read_event-turned.new.control c.read_event-turned.result c.deref_mut.ensures.value c.requires.idle c.requires.plays c.in-Ok.ensures.plan c.read_event-turned.ensures)
    (c.give_control.ensures.given ∙ ap gave_back c.in-Ok.ensures.won) c.give_control.ensures.placed
