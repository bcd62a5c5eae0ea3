use Rattle.vi_trace.specs.Rules.{down}
use Rattle.vi_trace.proofs.state.State.down.Goals as goal

pub returns-in-Err : goal.returns-in-Err
returns-in-Err c = λ known holds. down c.args.bytes.now (λ f reads. let same = (c.in-Err.ensures.accepted f).1 reads in absurd (cc))
