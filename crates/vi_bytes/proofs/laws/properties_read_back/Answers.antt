use Rattle.vi_bytes.proofs.PropertyLemmas.{length-property_bytes, ReadsFrom-property_bytes}
use Rattle.vi_bytes.proofs.laws.properties_read_back.Goals as goal

pub returns-clause-size : goal.returns-clause-size
returns-clause-size c = length-property_bytes

pub returns-clause-reads : goal.returns-clause-reads
returns-clause-reads c = ReadsFrom-property_bytes
