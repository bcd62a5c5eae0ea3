use Rattle.std.proofs.Common.{◌≡◌}
use Rattle.vi_log.specs.Logs.{filled}
use Rattle.vi_log.proofs.merging.place.Given as goal

abbrev pub invariant-loop : goal.invariant-loop
invariant-loop l = l.history.items ≡ filled l.fn.history.items l.counter
