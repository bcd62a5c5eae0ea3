use Rattle.vi_state.proofs.Staying.{stays_followed}
use Rattle.vi_state.proofs.laws.stays_followed.Goals as goal

pub returns : goal.returns
returns c = stays_followed
