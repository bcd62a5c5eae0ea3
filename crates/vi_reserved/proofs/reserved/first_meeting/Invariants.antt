use Rattle.std.proofs.Common.{◌≡◌, drop}
use Rattle.vi_reserved.specs.Regions.{region_meeting}
use Rattle.vi_reserved.proofs.reserved.first_meeting.Given as goal

abbrev pub invariant-loop-region : goal.invariant-loop-region
invariant-loop-region l = region_meeting l.span (drop l.region-index l.regions) ≡ region_meeting l.span l.regions
