use Rattle.vi_commands.proofs.WorkLemmas.{tells-trace}
use Rattle.vi_commands.proofs.told.tell.Goals as goal

pub returns : goal.returns
returns c = tells-trace c.args.task c.args.input.now c.traced.result c.traced.ensures
