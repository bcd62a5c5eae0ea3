use Rattle.std.proofs.Common.{◌≡◌, map}
use Rattle.std.specs.List.{range_with_len}
use Rattle.vi_model.specs.Drivers.{no_stand}
use Rattle.vi_driver.specs.Drivers.{own_driver}
use Rattle.vi_core.proofs.opening.drivers_of.Given as goal

abbrev pub invariant-loop-number : goal.invariant-loop-number
invariant-loop-number l = l.drivers.items ≡ map (λ number. own_driver l.script number no_stand) (range_with_len 0 l.number)
