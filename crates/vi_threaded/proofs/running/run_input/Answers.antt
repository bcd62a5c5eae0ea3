use Rattle.std.proofs.Common.{None, refl, rules}
use Rattle.vi_threaded.specs.Running.{too_long, refused, not_read}
use Rattle.vi_commands.specs.Status.{status_text}
use Rattle.vi_commands.specs.declared.status.Status.TheVariants.{TooLong}
use Rattle.vi_threaded.proofs.RunLemmas.{EndsRun-from_deliver, EndsRun-from_refusal}
use Rattle.vi_threaded.proofs.running.run_input.Goals as goal

pub returns-in-Err-TooLong-clause-ends : goal.returns-in-Err-TooLong-clause-ends
returns-in-Err-TooLong-clause-ends g c =
    let d = c.deliver.ensures in
    let w = c.without_run.ensures in
    EndsRun-from_deliver _ _ _ None _ TooLong _ _ (status_text TooLong) (too_long c.requires.reads (search rules) refl refl refl) d.either d.whole d.prefix d.write_fault w.0 w.1

pub returns-in-Err-ReadFault-clause-ends : goal.returns-in-Err-ReadFault-clause-ends
returns-in-Err-ReadFault-clause-ends g c =
    let w = c.without_run-in-Err-ReadFault.ensures in
    not_read c.requires.reads (search rules) (search rules) w.1 w.0

pub returns-in-Ok-parse-clause-ends : goal.returns-in-Ok-parse-clause-ends
returns-in-Ok-parse-clause-ends g c =
    c.report_run.ensures.ends _ _ _ _ (rw c.as_slice-bytes.ensures c.in-Ok.ensures.all)

pub returns-in-Err-Bad-clause-ends : goal.returns-in-Err-Bad-clause-ends
returns-in-Err-Bad-clause-ends g c =
    let is = c.in-Err-Bad.field-0-is in
    let d = c.refuse.ensures in
    let w = c.without_run-in-Err-Bad.ensures in
    EndsRun-from_refusal c.args.form _ _ _ c.in-Err-Bad.line c.in-Err-Bad.kind c.refuse.result _ (refused c.requires.reads (record {
      input = c.as_slice-bytes.result.now;
      read = rw c.as_slice-bytes.ensures c.in-Ok.ensures.all;
      within = rw c.as_slice-bytes.ensures c.in-Ok.ensures.within;
      bad = record { line = c.in-Err-Bad.line; kind = c.in-Err-Bad.kind };
      refused = rw is at c.in-Err-Bad.ensures.read;
      status_is = refl;
    }) refl refl) (rw is at d.either) (rw is at d.whole) (rw is at d.prefix) d.nothing d.write_fault w.0 w.1
