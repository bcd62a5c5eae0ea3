use Rattle.vi_backend.proofs.Cached as cached
use Rattle.vi_backend.proofs.laws.all_is_all.Goals as goal

pub returns : goal.returns
returns c = cached.all_is_all
