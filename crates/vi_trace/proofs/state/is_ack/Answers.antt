use Rattle.std.proofs.Common.{Ok, ap, refl}
use Rattle.std.proofs.lemmas.Bool.{false≢true}
use Rattle.vi_iotlb.specs.declared.frame.Frame.TheVariants.{Ack}
use Rattle.vi_trace.proofs.state.is_ack.Goals as goal

pub returns-in-Ack : goal.returns-in-Ack
returns-in-Ack c = (λ _. (c.in-Ok.ensures.accepted Ack).0 (ap (λ f. Ok f) c.in-Ack.is), λ _. refl)

pub returns-in_default : goal.returns-in_default
returns-in_default c = (λ f. absurd (false≢true f), λ reads. absurd (c.in_default.not-Ack (let same = (c.in-Ok.ensures.accepted Ack).1 reads in cc)))

pub returns-in-Err : goal.returns-in-Err
returns-in-Err c = (λ f. absurd (false≢true f), λ reads. let same = (c.in-Err.ensures.accepted Ack).1 reads in absurd (cc))
