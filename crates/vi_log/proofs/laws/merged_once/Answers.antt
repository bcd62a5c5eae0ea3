use Rattle.vi_log.proofs.LogsMerging.{merged-once}
use Rattle.vi_log.proofs.laws.merged_once.Goals as goal

pub returns : goal.returns
returns c = merged-once
