use Rattle.vi_dirty.proofs.Replicas.{replicas_follow}
use Rattle.vi_dirty.proofs.replica.replicas_follow.Goals as goal

pub returns : goal.returns
returns c = replicas_follow
