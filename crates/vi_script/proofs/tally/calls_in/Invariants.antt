use Rattle.std.proofs.Common.{◌≡◌, ◌*◌, ◌≤◌, take}
use Rattle.std.specs.Prelude.{sum_by}
use Rattle.vi_script.proofs.tally.calls_in.Given as goal

abbrev pub invariant-loop-batch : goal.invariant-loop-batch
invariant-loop-batch l = record {
  sum : l.calls ≡ sum_by (λ b. b.longest) (take l.batch-index l.batches);
  small : l.calls ≤ 4294967296 * l.batch-index;
}
