use Rattle.std.proofs.Common.{subst, refl}
use Rattle.vi_lines.specs.Value.{ScriptValue}
use Rattle.vi_threaded.specs.Running.{SumsRun}
use Rattle.vi_threaded.proofs.running.summarized.Goals as goal

pub returns : goal.returns
returns g c = record {
  s = c.in_ok-load_script.field-0;
  is_script = c.in_ok-load_script.ensures.script;
  finished = c.in_ok-finished.finished;
  run_is = refl;
  of_run = subst (λ (s : ScriptValue). SumsRun c.args.rounds s c.in_ok-finished.finished c.in_ok-line.line) c.in_ok-finished.ensures c.in_ok-line.ensures;
}
