use Rattle.std.proofs.Common.{◌≡◌, fold, take}
use Rattle.vi_log.specs.Logs.{placed}
use Rattle.vi_log.proofs.merging.place_all.Given as goal

abbrev pub invariant-loop-index : goal.invariant-loop-index
invariant-loop-index l = l.history.items ≡ fold placed l.fn.history.items (take l.index l.log.entries)
