use Rattle.std.proofs.Common.{◌≡◌, ◌++◌, take, drop, map}
use Rattle.vi_check.specs.Seen.{moved_if}
use Rattle.vi_check.proofs.progress.move_to.Given as goal

abbrev pub invariant-loop-back : goal.invariant-loop-back
invariant-loop-back l = l.back-items ≡ map (moved_if l.next) (take l.back-index l.initial.back-items) ++ drop l.back-index l.initial.back-items
