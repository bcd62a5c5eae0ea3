use Rattle.std.proofs.Common.{◌+◌, length}
use Rattle.vi_iova.proofs.Walking.{IsWalked}
use Rattle.vi_iova.proofs.walk.lowest_clear.Given as goal

abbrev pub invariant-loop-span : goal.invariant-loop-span
invariant-loop-span l = IsWalked l.wanted l.live l.kept_off l.from l.ahead l.regions l.first

abbrev pub decreases-loop-span : goal.decreases-loop-span
decreases-loop-span l = length l.ahead + length l.regions
