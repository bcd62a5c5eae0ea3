use Rattle.std.proofs.Common.{◌∙◌}
use Rattle.vi_log.proofs.LogsKeeping.{push_leaves}
use Rattle.vi_log.proofs.log.Log.push.Goals as goal

pub returns : goal.returns
returns c = push_leaves c.args.ticket c.args.mark _ c.args.bytes.now _ _ _ _ _ _ _ c.self.invariant.0 c.self.view_is (rw c.unwrap.ensures at c.extend_from_slice.ensures.items) (c.len-from.ensures ∙ c.self.inside.bytes.ok.0) c.push_reserved.ensures.items
