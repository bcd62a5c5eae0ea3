use Rattle.std.proofs.Common.{◌≡◌, drop}
use Rattle.vi_reserved.specs.Regions.{region_with}
use Rattle.vi_reserved.proofs.reserved.first_with.Given as goal

abbrev pub invariant-loop-region : goal.invariant-loop-region
invariant-loop-region l = region_with l.address (drop l.region-index l.regions) ≡ region_with l.address l.regions
