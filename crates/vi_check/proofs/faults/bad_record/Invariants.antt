use Rattle.std.proofs.Common.{◌≡◌, ◌+◌, ◌≤◌, length, take, drop}
use Rattle.vi_check.specs.Faults.{bad_record}
use Rattle.vi_check.proofs.FaultLemmas.{last_of}
use Rattle.vi_check.proofs.faults.bad_record.Given as goal

abbrev pub invariant-loop-at : goal.invariant-loop-at
invariant-loop-at l = record {
  within : l.next ≤ length l.records;
  rest : bad_record l.records (l.at + 1) (last_of 0 (take l.next l.records)) (drop l.at l.shown) ≡ bad_record l.records 1 0 l.shown;
}
