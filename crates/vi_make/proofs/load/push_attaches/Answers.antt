use Rattle.vi_make.specs.LoadScript.{attach_line}
use Rattle.vi_make.proofs.Ranges.{written_more}
use Rattle.vi_make.proofs.load.push_attaches.Goals as goal

pub loop-driver-preserved : goal.loop-driver-preserved
loop-driver-preserved c = written_more attach_line c.loop-driver.driver _ _ _ c.loop-driver.invariant c.in_ok-push_attach.ensures
