use Rattle.std.proofs.Common.{◌≡◌}
use Rattle.vi_bench_c.proofs.ring.run.Given as goal

abbrev pub invariant-loop-round : goal.invariant-loop-round
invariant-loop-round l = (l.ring.reading ≡ 64) × (l.ring.writing ≡ 64)
