use Rattle.vi_threaded.proofs.running.run_form.Goals as goal

pub returns-in-Load-clause-ends : goal.returns-in-Load-clause-ends
returns-in-Load-clause-ends g c = rw c.in-Load.is (c.run_load.ensures.ends _ _)
