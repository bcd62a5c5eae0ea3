use Rattle.std.proofs.Common.{◌≡◌, ◌++◌, take, drop, map}
use Rattle.vi_bytes.specs.Mappings.{without_span}
use Rattle.vi_history.specs.Effects.{changed_if}
use Rattle.vi_plain.proofs.device.effects.unmap.Given as goal

abbrev pub invariant-loop-y : goal.invariant-loop-y
invariant-loop-y l = l.domains ≡ map (changed_if l.id (without_span l.span)) (take l.y-index l.initial.domains) ++ drop l.y-index l.initial.domains
