use Rattle.std.proofs.Common.{rules}
use Rattle.vi_log.proofs.LogsPlacing.{filled_more}
use Rattle.vi_log.proofs.merging.place.Goals as goal

pub loop-preserved : goal.loop-preserved
loop-preserved c = filled_more c.args.history.now.items c.loop.history.items c.push.new.self.items c.loop.counter c.blank.result (search rules) c.loop.invariant c.blank.ensures c.in_ok-push.ensures.items
