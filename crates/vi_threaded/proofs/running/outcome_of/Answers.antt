use Rattle.std.proofs.Common.{refl}
use Rattle.vi_threaded.proofs.RunLemmas.{ran_to}
use Rattle.vi_threaded.proofs.running.outcome_of.Goals as goal

pub returns : goal.returns
returns c = ran_to _ _ _ refl c.in_ok-outcome.ensures.outcome c.in_ok-outcome.ensures.made
