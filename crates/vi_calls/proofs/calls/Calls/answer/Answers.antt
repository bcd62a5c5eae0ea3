use Rattle.vi_calls.proofs.calls.Calls.answer.Goals as goal

pub write-requires-in-Probed-clause-fits : goal.write-requires-in-Probed-clause-fits
write-requires-in-Probed-clause-fits c =
    let fits = rw c.in-Probed.is at c.requires.fits in
    rw c.probed.ensures.bytes fits
