use Rattle.vi_commands.proofs.JudgedLemmas.{report_cut, report_uncut}
use Rattle.vi_commands.proofs.judged.report_in.Goals as goal

pub returns-in-Some-clause-report : goal.returns-in-Some-clause-report
returns-in-Some-clause-report c = report_cut c.args.input.now c.in-Some.parts.script.now c.in-Some.parts.report.now c.in-Some.ensures

pub returns-in-None-clause-report : goal.returns-in-None-clause-report
returns-in-None-clause-report c = report_uncut c.args.input.now c.in-None.ensures
