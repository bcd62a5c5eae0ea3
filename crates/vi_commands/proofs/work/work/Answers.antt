use Rattle.vi_commands.proofs.WorkLemmas.{does-took, does-refused}
use Rattle.vi_commands.proofs.work.work.Goals as goal

pub returns-in-Ok : goal.returns-in-Ok
returns-in-Ok c = does-took c.args.task c.args.input.now c.in-Ok.script c.answer_to.result c.in-Ok.ensures.read c.answer_to.ensures

pub returns-in-Err-Bad : goal.returns-in-Err-Bad
returns-in-Err-Bad c =
    let is = c.in-Err-Bad.field-0-is in
    does-refused c.args.task c.args.input.now (record { line = c.in-Err-Bad.line; kind = c.in-Err-Bad.kind }) c.refusal.result
    (rw is at c.in-Err-Bad.ensures.read) (rw is at c.refusal.ensures.status) (rw is at c.refusal.ensures.text)
