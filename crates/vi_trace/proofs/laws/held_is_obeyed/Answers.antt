use Rattle.vi_trace.proofs.Granted.{uses_granted}
use Rattle.vi_trace.proofs.Outlives.{nothing_outlives}
use Rattle.vi_trace.proofs.laws.held_is_obeyed.Goals as goal

pub returns-clause-outlives : goal.returns-clause-outlives
returns-clause-outlives c = nothing_outlives

pub returns-clause-granted : goal.returns-clause-granted
returns-clause-granted c = uses_granted
