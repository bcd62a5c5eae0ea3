use Rattle.vi_bytes.proofs.FaultRecordLemmas.{same-from_IsFaultRecord}
use Rattle.vi_bytes.proofs.laws.fault_records_read_once.Goals as goal

pub returns : goal.returns
returns c = same-from_IsFaultRecord
