use Rattle.std.proofs.Common.{◌∙◌}
use Rattle.vi_core.proofs.Keeping.{push_leaves}
use Rattle.vi_core.proofs.history.History.push.Goals as goal

pub returns : goal.returns
returns c = push_leaves c.args.mark _ c.args.bytes.now _ _ _ _ _ _ _ c.self.invariant.0 c.self.view_is (rw c.unwrap.ensures at c.extend_from_slice.ensures.items) (c.len-from.ensures ∙ c.self.inside.bytes.ok.0) c.push_reserved.ensures.items
