use Rattle.vi_bytes.proofs.FaultRecordLemmas.{length-fault_record, IsFaultRecord-fault_record}
use Rattle.vi_bytes.proofs.laws.fault_records_read_back.Goals as goal

pub returns-clause-size : goal.returns-clause-size
returns-clause-size c = length-fault_record

pub returns-clause-reads : goal.returns-clause-reads
returns-clause-reads c = IsFaultRecord-fault_record
