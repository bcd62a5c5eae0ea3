use Rattle.vi_bytes.proofs.SpanLemmas.{meets-iff}
use Rattle.vi_bytes.proofs.laws.span_tests.Goals as goal

pub returns-clause-meets : goal.returns-clause-meets
returns-clause-meets c = meets-iff
