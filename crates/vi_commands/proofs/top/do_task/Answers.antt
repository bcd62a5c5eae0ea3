use Rattle.std.proofs.Common.{refl, rules}
use Rattle.vi_commands.specs.Accepted.{limit_of}
use Rattle.vi_commands.specs.Top.{too_long, worked}
use Rattle.vi_commands.specs.declared.status.Status.TheVariants.{TooLong}
use Rattle.vi_commands.proofs.EndLemmas.{Ends-from_deliver}
use Rattle.vi_commands.proofs.top.do_task.Goals as goal

pub returns-in-Err-TooLong-clause-ends : goal.returns-in-Err-TooLong-clause-ends
returns-in-Err-TooLong-clause-ends g c =
    let d = c.deliver.ensures in
    Ends-from_deliver _ _ _ TooLong _ _ (too_long (record { limit = limit_of c.args.task; is_limit = refl; past = search rules }) refl refl) d.either d.whole d.prefix d.write_fault

pub returns-in-Ok-work-clause-ends : goal.returns-in-Ok-work-clause-ends
returns-in-Ok-work-clause-ends g c =
    let d = c.deliver-in-Ok-work.ensures in
    let a = c.in-Ok-work.ensures in
    Ends-from_deliver _ _ _ c.in-Ok-work.answer.status _ _ (worked record {
      task = c.args.task;
      is_task = refl;
      input = c.as_slice.result.now;
      read = rw c.as_slice.ensures c.in-Ok.ensures.all;
      within = rw c.as_slice.ensures (rw c.limit.ensures at c.in-Ok.ensures.within);
      done = rw c.as_slice-in-Ok-work.ensures a;
    }) d.either d.whole d.prefix d.write_fault
