use Rattle.vi_commands.proofs.WorkLemmas.{tells-no_trace}
use Rattle.vi_commands.proofs.told.traced.Goals as goal

pub returns-in-Ok : goal.returns-in-Ok
returns-in-Ok c = c.found.ensures c.args.input.now c.in-Ok.ensures.read

pub returns-in-Err-Bad : goal.returns-in-Err-Bad
returns-in-Err-Bad c =
    let is = c.in-Err-Bad.field-0-is in
    tells-no_trace c.args.input.now c.in-Err-Bad.line c.refusal.result (rw is at c.in-Err-Bad.ensures.read) c.refusal.ensures.status c.refusal.ensures.text
