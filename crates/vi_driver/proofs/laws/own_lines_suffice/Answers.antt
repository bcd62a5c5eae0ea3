use Rattle.vi_driver.proofs.Batches.{one_batch-own, line_of-own}
use Rattle.vi_driver.proofs.laws.own_lines_suffice.Goals as goal

pub returns : goal.returns
returns c = λ s driver d. (one_batch-own s driver d, line_of-own s driver d)
