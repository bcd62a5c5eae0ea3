use Rattle.std.proofs.lemmas.Result.{IfOk-weaker}
use Rattle.vi_lines.proofs.TransferLemmas.{HasTransfers-from_valid}
use Rattle.vi_dirty.proofs.Calls.{carried}
use Rattle.vi_dirty.proofs.following.call_of.Goals as goal

pub call-requires : goal.call-requires
call-requires c = HasTransfers-from_valid c.args.script.now c.requires

pub returns-clause-carried : goal.returns-clause-carried
returns-clause-carried c = IfOk-weaker c.call.result _ _ (λ call is. carried c.args.script.now c.args.entry.now call c.requires is) c.call.ensures
