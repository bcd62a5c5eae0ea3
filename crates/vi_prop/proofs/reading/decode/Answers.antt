use Rattle.vi_prop.specs.Lists.{answered}
use Rattle.vi_prop.proofs.SoFar.{only_answer}
use Rattle.vi_prop.proofs.reading.decode.Goals as goal

pub returns-clause-only : goal.returns-clause-only
returns-clause-only c = only_answer c.args.bytes.now (answered (λ v. v.items) c.read_regions.result) c.read_regions.ensures
