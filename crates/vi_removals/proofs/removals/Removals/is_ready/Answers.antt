use Rattle.std.proofs.Common.{◌∙◌, ap, is_some}
use Rattle.vi_shoot.proofs.Oldest.{is_some-first}
use Rattle.vi_removals.proofs.Views.{ready-view}
use Rattle.vi_removals.proofs.removals.Removals.is_ready.Goals as goal

pub returns : goal.returns
returns c = rw (← c.self.view_is) (c.is_some.ensures ∙ ap is_some c.ready.ensures.first ∙ is_some-first c.self.inside.ops ∙ ready-view c.self.inside.ids.items c.self.inside.calls c.self.inside.ops c.self.invariant.tied)
