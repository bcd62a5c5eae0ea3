use Rattle.std.proofs.Common.{Some, refl}
use Rattle.vi_threaded.specs.Running.{reports}
use Rattle.vi_commands.specs.declared.status.Status.TheVariants.{Ok}
use Rattle.vi_threaded.proofs.RunLemmas.{EndsRun-from_deliver}
use Rattle.vi_threaded.proofs.running.report_run.Goals as goal

pub returns-in-Ok-clause-ends : goal.returns-in-Ok-clause-ends
returns-in-Ok-clause-ends g c = λ old new before now read.
    let d = c.deliver.ensures in
    let w = c.with_run.ensures in
    EndsRun-from_deliver _ _ _ (Some c.in-Ok.finished) _ Ok _ _ c.as_slice.result.now (reports c.requires.reads (record {
      input = c.args.input.now;
      read = read;
      within = c.requires.within;
      s = c.args.script;
      is_script = c.requires.read;
      finished = c.in-Ok.finished;
      run_is = refl;
      of_run = rw c.as_slice.ensures c.in-Ok.ensures;
    }) refl) d.either d.whole d.prefix d.write_fault w.0 w.1
