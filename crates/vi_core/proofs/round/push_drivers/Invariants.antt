use Rattle.std.proofs.Common.{◌≡◌, ◌++◌}
use Rattle.vi_model.specs.Rounds.{drivers_of}
use Rattle.vi_core.proofs.Whose.{drivers_from}
use Rattle.vi_core.proofs.round.push_drivers.Given as goal

abbrev pub invariant-loop-number : goal.invariant-loop-number
invariant-loop-number l = l.actors.items ++ drivers_from l.script l.number ≡ l.initial.actors.items ++ drivers_of l.script
