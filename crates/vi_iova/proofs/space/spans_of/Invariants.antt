use Rattle.std.proofs.Common.{◌≡◌, map, take}
use Rattle.vi_iova.proofs.space.spans_of.Given as goal

-- the spans of the regions so far
abbrev pub invariant-loop-region : goal.invariant-loop-region
invariant-loop-region l = l.spans.items ≡ map (λ r. r.span) (take l.region-index l.regions)
