use Rattle.std.proofs.Common.{◌≡◌, ◌++◌, take, drop}
use Rattle.vi_iova.specs.Spaces.{among}
use Rattle.vi_iova.proofs.space.place_of.Given as goal

-- the span doesn't go among the first i
abbrev pub invariant-loop-i : goal.invariant-loop-i
invariant-loop-i l = take l.i l.live ++ among l.span (drop l.i l.live) ≡ among l.span l.live
