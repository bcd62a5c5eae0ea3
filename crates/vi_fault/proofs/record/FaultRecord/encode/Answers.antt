use Rattle.std.proofs.Common.{refl, sym, subst, arith}
use Rattle.vi_bytes.specs.FaultRecords.{fault_record}
use Rattle.vi_fault.specs.Reports.{need_of, ReadAs}
use Rattle.vi_bytes.proofs.FaultRecordLemmas.{IsFaultRecord-fault_record}
use Rattle.vi_fault.proofs.record.FaultRecord.encode.Goals as goal

pub returns-clause-bytes : goal.returns-clause-bytes
unfolding fault_record
returns-clause-bytes c = rw (c.write_u64.ensures, c.write_u32-2.ensures, c.write_u32.ensures, c.flags.ensures) refl

pub returns-clause-reads : goal.returns-clause-reads
returns-clause-reads c =
    let r = c.args.self.now in
    subst (λ bytes. ReadAs bytes r) (sym (returns-clause-bytes c)) (IsFaultRecord-fault_record r.reason (need_of r.write) r.endpoint r.address c.requires (omega arith) (omega arith))
