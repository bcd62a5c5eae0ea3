use Rattle.std.proofs.Common.{◌≤◌, ◌+◌, length}
use Rattle.vi_bench_c.proofs.tree.filled.Given as goal

abbrev pub invariant-loop-page : goal.invariant-loop-page
invariant-loop-page l = length l.pages ≤ l.page-index + l.tree.spare
