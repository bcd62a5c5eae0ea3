use Rattle.vi_dirty.proofs.Marking.{seen_at_first}
use Rattle.vi_dirty.proofs.set.PageSet.new.Goals as goal

pub returns : goal.returns
returns c = seen_at_first _ _ c.in_ok-marks.ensures
