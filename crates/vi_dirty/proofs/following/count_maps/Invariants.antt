use Rattle.std.proofs.Common.{◌≡◌, sum_by, take}
use Rattle.vi_dirty.specs.Led.{called, maps_by}
use Rattle.vi_dirty.proofs.following.count_maps.Given as goal

abbrev pub invariant-loop-entry : goal.invariant-loop-entry
invariant-loop-entry l = l.maps ≡ sum_by (λ h. maps_by h (called l.script h)) (take l.entry-index l.entries)
