use Rattle.std.proofs.Common.{refl, rules}
use Rattle.vi_commands.specs.Top.{too_long, told}
use Rattle.vi_commands.specs.declared.status.Status.TheVariants.{TooLong}
use Rattle.vi_commands.specs.declared.top.TheConstants.{INPUT_LIMIT}
use Rattle.vi_commands.proofs.EndLemmas.{Ends-from_deliver}
use Rattle.vi_commands.proofs.top.do_text.Goals as goal

pub returns-in-Err-TooLong-clause-ends : goal.returns-in-Err-TooLong-clause-ends
returns-in-Err-TooLong-clause-ends g c =
    let d = c.deliver.ensures in
    Ends-from_deliver _ _ _ TooLong _ _ (too_long (record { limit = INPUT_LIMIT; is_limit = refl; past = search rules }) refl refl) d.either d.whole d.prefix d.write_fault

pub returns-in-Ok-tell-clause-ends : goal.returns-in-Ok-tell-clause-ends
returns-in-Ok-tell-clause-ends g c =
    let d = c.deliver-in-Ok-tell.ensures in
    let a = c.in-Ok-tell.ensures in
    Ends-from_deliver _ _ _ c.in-Ok-tell.answer.status _ _ (told record {
      task = c.args.task;
      is_task = refl;
      input = c.as_slice.result.now;
      read = rw c.as_slice.ensures c.in-Ok.ensures.all;
      within = rw c.as_slice.ensures c.in-Ok.ensures.within;
      done = rw c.as_slice-in-Ok-tell.ensures a;
    }) d.either d.whole d.prefix d.write_fault
