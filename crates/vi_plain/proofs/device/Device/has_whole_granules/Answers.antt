use Rattle.std.proofs.Common.{sym}
use Rattle.vi_plain.proofs.Granules.{are_multiples-whole}
use Rattle.vi_plain.proofs.device.Device.has_whole_granules.Goals as goal

pub returns-then-aligned : goal.returns-then-aligned
returns-then-aligned c =
    rw (c.from.ensures, ← c.self.view_is) (sym (are_multiples-whole c.self.inside.granule c.args.span.now.first c.args.span.now.last c.args.target (c.aligned.ensures.0 c.if-aligned.true)))
