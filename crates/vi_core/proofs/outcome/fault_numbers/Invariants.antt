use Rattle.std.proofs.Common.{◌≡◌, take}
use Rattle.vi_core.specs.Outcomes.{fault_numbers}
use Rattle.vi_core.proofs.outcome.fault_numbers.Given as goal

abbrev pub invariant-loop-entry : goal.invariant-loop-entry
invariant-loop-entry l = record {
  number : l.number ≡ l.entry-index;
  faults : l.numbers.items ≡ fault_numbers 1 (take l.entry-index l.entries);
}
