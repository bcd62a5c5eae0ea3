use Rattle.std.proofs.Common.{◌≡◌, ◌*◌, ◌≤◌, take}
use Rattle.std.specs.Prelude.{sum_by}
use Rattle.vi_make.specs.Summaries.{read_sum}
use Rattle.vi_make.proofs.counts.sum_read.Given as goal

abbrev pub invariant-loop-entry : goal.invariant-loop-entry
invariant-loop-entry l = record {
  sum : l.sum ≡ sum_by read_sum (take l.entry-index l.entries);
  small : l.sum ≤ 1048576 * l.entry-index;
}
