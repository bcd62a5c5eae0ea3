use Rattle.std.proofs.Common.{◌≡◌, replicate, vec_capacity}
use Rattle.vi_calls.specs.Rows.{no_row}
use Rattle.vi_calls.proofs.calls.Calls.build.Given as goal

abbrev pub invariant-loop-driver : goal.invariant-loop-driver
invariant-loop-driver l = (l.rows.items ≡ replicate l._driver no_row) × (vec_capacity l.rows ≡ 8)
