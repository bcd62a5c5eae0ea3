use Rattle.std.proofs.Common.{◌<◌}
use Rattle.vi_bench_c.proofs.cache.run.Given as goal

abbrev pub invariant-loop-look : goal.invariant-loop-look
invariant-loop-look l = l.number < l.leases
