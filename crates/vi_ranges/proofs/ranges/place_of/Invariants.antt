use Rattle.std.proofs.Common.{◌≡◌, ◌++◌, take, drop}
use Rattle.vi_bytes.specs.Mappings.{with_mapping}
use Rattle.vi_ranges.proofs.ranges.place_of.Given as goal

-- the mapping doesn't go among the first i
abbrev pub invariant-loop-i : goal.invariant-loop-i
invariant-loop-i l = take l.i l.mappings ++ with_mapping l.m (drop l.i l.mappings) ≡ with_mapping l.m l.mappings
