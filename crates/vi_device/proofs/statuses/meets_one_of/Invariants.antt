use Rattle.std.proofs.Common.{◌≡◌, drop}
use Rattle.std.specs.List.{list_any}
use Rattle.vi_history.specs.Statuses.{any_mapping_meets}
use Rattle.vi_device.proofs.statuses.meets_one_of.Given as goal

abbrev pub invariant-loop-region : goal.invariant-loop-region
invariant-loop-region l = list_any (λ r. any_mapping_meets r.span l.table.mappings) (drop l.region-index l.regions) ≡ list_any (λ r. any_mapping_meets r.span l.table.mappings) l.regions
