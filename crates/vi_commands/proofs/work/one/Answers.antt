use Rattle.vi_commands.proofs.WorkLemmas.{answers-replies}
use Rattle.vi_commands.proofs.work.one.Goals as goal

pub returns : goal.returns
returns c = λ input.
    answers-replies input c.args.script.now c.in_ok-outcome.outcome c.report.result c.in_ok-outcome.ensures.outcome c.in_ok-outcome.ensures.made c.report.ensures.status c.report.ensures.text c.report.ensures.typed
