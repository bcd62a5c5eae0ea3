use Rattle.std.proofs.Common.{◌≤◌, ◌-◌, length}
use Rattle.vi_prop.proofs.SoFar.{ReadSoFar}
use Rattle.vi_prop.proofs.reading.read_regions.Given as goal

-- the next property begins within the bytes or at their end, and these are the regions before it
abbrev pub invariant-loop-at : goal.invariant-loop-at
invariant-loop-at l = (l.at ≤ length l.bytes) × ReadSoFar l.bytes l.at l.regions.items

abbrev pub decreases-loop-at : goal.decreases-loop-at
decreases-loop-at l = length l.bytes - l.at
