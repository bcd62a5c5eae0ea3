use Rattle.std.proofs.Common.{◌<◌, length, arith}
use Rattle.std.proofs.lemmas.List.Edits.{map_over_more}
use Rattle.vi_history.specs.Effects.{moved_if}
use Rattle.vi_plain.proofs.device.effects.move_endpoint.Goals as goal

pub loop-x-preserved : goal.loop-x-preserved
loop-x-preserved c =
    let within : c.loop-x.x-index < length c.args.endpoints.now = omega arith in
    rw (c.move_if.ensures, ← c.x-item.is) (map_over_more (moved_if c.args.id c.args.membership) c.args.endpoints.now c.loop-x.endpoints c.loop-x.x-index c.x-item.result within c.loop-x.invariant c.x-item.is)
