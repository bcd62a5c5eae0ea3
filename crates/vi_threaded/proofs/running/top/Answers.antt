use Rattle.std.proofs.Common.{◌≡◌}
use Rattle.vi_threaded.specs.declared.threaded.Threaded.TheVariants.{Run, Dirty}
use Rattle.vi_threaded.proofs.RunLemmas.{run_written, history_written, run_or_fault, refusal_or_fault, long_or_fault, summary_written, summary_or_fault, no_usage}
use Rattle.vi_threaded.proofs.running.top.Goals as goal

pub returns-in-Some-clause-run : goal.returns-in-Some-clause-run
returns-in-Some-clause-run g c = λ form reads is ok.
    let same : c.in-Some.form ≡ form = cc (c.in-Some.ensures.form, is) in
    run_written form _ _ _ _ (rw same at c.run_form.ensures.ends) reads ok

pub returns-in-Some-clause-run_is_plain : goal.returns-in-Some-clause-run_is_plain
returns-in-Some-clause-run_is_plain g c = λ workers is ok. history_written workers _ _ _ (returns-in-Some-clause-run g c (Run workers) tt is ok)

pub returns-in-Some-clause-dirty : goal.returns-in-Some-clause-dirty
returns-in-Some-clause-dirty g c = λ every workers is ok. returns-in-Some-clause-run g c (Dirty every workers) tt is ok

pub returns-in-Some-clause-accepted : goal.returns-in-Some-clause-accepted
returns-in-Some-clause-accepted g c = λ form reads is.
    let same : c.in-Some.form ≡ form = cc (c.in-Some.ensures.form, is) in
    run_or_fault form _ _ _ _ (rw same at c.run_form.ensures.ends) reads

pub returns-in-Some-clause-refused : goal.returns-in-Some-clause-refused
returns-in-Some-clause-refused g c = λ form reads is.
    let same : c.in-Some.form ≡ form = cc (c.in-Some.ensures.form, is) in
    refusal_or_fault form _ _ _ _ (rw same at c.run_form.ensures.ends) reads

pub returns-in-Some-clause-too_long : goal.returns-in-Some-clause-too_long
returns-in-Some-clause-too_long g c = λ form reads is.
    let same : c.in-Some.form ≡ form = cc (c.in-Some.ensures.form, is) in
    long_or_fault form _ _ _ _ (rw same at c.run_form.ensures.ends) reads

pub returns-in-Some-clause-load : goal.returns-in-Some-clause-load
returns-in-Some-clause-load g c = λ rounds workers is ok. summary_written _ _ _ _ _ c.run_form.ensures.ends rounds workers (cc (c.in-Some.ensures.form, is)) ok

pub returns-in-Some-clause-load_always : goal.returns-in-Some-clause-load_always
returns-in-Some-clause-load_always g c = λ rounds workers is. summary_or_fault _ _ _ _ _ c.run_form.ensures.ends rounds workers (cc (c.in-Some.ensures.form, is))

pub returns-in-Some-clause-usage : goal.returns-in-Some-clause-usage
returns-in-Some-clause-usage g c = λ is. absurd (no_usage _ _ _ _ _ c.run_form.ensures.ends is)

pub returns-in-Some-clause-reads_at_most : goal.returns-in-Some-clause-reads_at_most
returns-in-Some-clause-reads_at_most g c = λ form reads is.
    let same : c.in-Some.form ≡ form = cc (c.in-Some.ensures.form, is) in
    c.run_form.ensures.at_most (rw same reads)
