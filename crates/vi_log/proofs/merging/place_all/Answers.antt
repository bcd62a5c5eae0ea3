use Rattle.vi_log.proofs.LogsPlacing.{placed_more}
use Rattle.vi_log.proofs.merging.place_all.Goals as goal

pub loop-index-preserved : goal.loop-index-preserved
loop-index-preserved c = placed_more c.args.history.now.items _ _ c.args.log.now.entries c.loop-index.index _ c.in_ok-ticket.ensures c.loop-index.invariant c.in_ok-place.ensures
