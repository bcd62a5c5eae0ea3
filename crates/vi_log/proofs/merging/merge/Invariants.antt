use Rattle.std.proofs.Common.{◌≡◌, [], fold, take, flat_map}
use Rattle.vi_log.specs.Logs.{placed}
use Rattle.vi_log.proofs.merging.merge.Given as goal

abbrev pub invariant-loop-log : goal.invariant-loop-log
invariant-loop-log l = l.history.items ≡ fold placed [] (flat_map (λ log. log.entries) (take l.log-index l.logs))
