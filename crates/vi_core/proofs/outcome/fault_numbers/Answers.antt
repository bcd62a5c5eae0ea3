use Rattle.std.proofs.Common.{ap, ◌+◌}
use Rattle.vi_core.proofs.Faulting.{fault_step}
use Rattle.vi_core.proofs.outcome.fault_numbers.Goals as goal

pub loop-entry-preserved : goal.loop-entry-preserved
loop-entry-preserved c = record {
  number = ap (λ n. n + 1) c.loop-entry.invariant.number;
  faults = fault_step c.args.entries.now c.loop-entry.entry-index c.loop-entry.number c.entry-item.result c.loop-entry.numbers.items _ c.loop-entry-test.true c.entry-item.is c.loop-entry.invariant.number c.loop-entry.invariant.faults c.in_ok-push_fault.ensures;
}
