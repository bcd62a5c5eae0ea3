use Rattle.std.proofs.Common.{subst}
use Rattle.vi_lines.specs.Value.{ScriptValue}
use Rattle.vi_threaded.specs.Running.{ReportsRun}
use Rattle.vi_threaded.proofs.running.reported.Goals as goal

pub returns : goal.returns
returns g c = subst (λ (s : ScriptValue). ReportsRun c.args.form s c.in_ok-finished.finished c.in_ok-text.text) c.in_ok-finished.ensures c.in_ok-text.ensures
