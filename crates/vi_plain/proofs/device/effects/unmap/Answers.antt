use Rattle.std.proofs.Common.{◌<◌, length, arith}
use Rattle.std.proofs.lemmas.List.Edits.{map_over_more}
use Rattle.vi_bytes.specs.Mappings.{without_span}
use Rattle.vi_history.specs.Effects.{changed_if}
use Rattle.vi_plain.proofs.device.effects.unmap.Goals as goal

pub loop-y-preserved : goal.loop-y-preserved
loop-y-preserved c =
    let within : c.loop-y.y-index < length c.args.domains.now = omega arith in
    rw (c.unmap_if.ensures, ← c.y-item.is) (map_over_more (changed_if c.args.id (without_span c.args.span.now)) c.args.domains.now c.loop-y.domains c.loop-y.y-index c.y-item.result within c.loop-y.invariant c.y-item.is)
