use Rattle.vi_shoot.proofs.Spans.{Meets-reach}
use Rattle.vi_shoot.proofs.laws.reaches_by_span.Goals as goal

pub returns-clause-meets : goal.returns-clause-meets
returns-clause-meets c = Meets-reach
