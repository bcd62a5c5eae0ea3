use Rattle.vi_bytes.proofs.PropertyLemmas.{same-from_ReadsFrom}
use Rattle.vi_bytes.proofs.laws.properties_read_once.Goals as goal

pub returns : goal.returns
returns c = λ bytes at read other. same-from_ReadsFrom
