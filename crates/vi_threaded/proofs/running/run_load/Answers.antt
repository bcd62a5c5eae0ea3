use Rattle.std.proofs.Common.{Some, refl}
use Rattle.vi_threaded.specs.Running.{summarizes}
use Rattle.vi_commands.specs.declared.status.Status.TheVariants.{Ok}
use Rattle.vi_threaded.proofs.RunLemmas.{EndsRun-from_deliver}
use Rattle.vi_threaded.proofs.running.run_load.Goals as goal

pub returns-in-Ok-clause-ends : goal.returns-in-Ok-clause-ends
returns-in-Ok-clause-ends g c = λ left faults.
    let d = c.deliver.ensures in
    let w = c.with_run.ensures in
    EndsRun-from_deliver _ _ _ (Some c.in-Ok.finished) _ Ok _ _ c.as_slice.result.now (summarizes c.args.rounds c.args.workers refl (rw c.as_slice.ensures c.in-Ok.ensures) refl) d.either d.whole d.prefix d.write_fault w.0 w.1
