use Rattle.std.proofs.Common.{sym, ◌∙◌, ap}
use Rattle.vi_report.specs.Reading.{read_report}
use Rattle.vi_commands.proofs.WorkLemmas.{answers-bad_report, answers-verdict}
use Rattle.vi_commands.proofs.work.judge.Goals as goal

pub returns-in-Ok : goal.returns-in-Ok
returns-in-Ok c =
    answers-verdict c.args.input.now c.args.script.now c.in-Ok.report c.verdict_on.result (ap read_report (sym c.report_in.ensures.report) ∙ c.in-Ok.ensures.read) c.in-Ok.ensures.made c.verdict_on.ensures.status c.verdict_on.ensures.text

pub returns-in-Err-Bad : goal.returns-in-Err-Bad
returns-in-Err-Bad c =
    let is = c.in-Err-Bad.field-0-is in
    answers-bad_report c.args.input.now c.args.script.now c.in-Err-Bad.line c.refusal.result (ap read_report (sym c.report_in.ensures.report) ∙ (rw is at c.in-Err-Bad.ensures.read)) c.refusal.ensures.status c.refusal.ensures.text
