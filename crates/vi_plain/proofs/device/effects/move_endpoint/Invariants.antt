use Rattle.std.proofs.Common.{◌≡◌, ◌++◌, take, drop, map}
use Rattle.vi_history.specs.Effects.{moved_if}
use Rattle.vi_plain.proofs.device.effects.move_endpoint.Given as goal

abbrev pub invariant-loop-x : goal.invariant-loop-x
invariant-loop-x l = l.endpoints ≡ map (moved_if l.id l.membership) (take l.x-index l.initial.endpoints) ++ drop l.x-index l.initial.endpoints
