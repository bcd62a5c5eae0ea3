use Rattle.std.proofs.Common.{◌≡◌, ◌*◌, ◌≤◌, take}
use Rattle.std.specs.List.{sum_by}
use Rattle.vi_lines.specs.Calls.{parts_of}
use Rattle.vi_control.proofs.counts.count_parts.Given as goal

abbrev pub invariant-loop-line : goal.invariant-loop-line
invariant-loop-line l = record {
  count : l.count ≡ sum_by (λ l. parts_of l.job) (take l.line-index l.lines);
  few : l.count ≤ 17 * l.line-index;
}
