use Rattle.std.proofs.Common.{◌∙◌}
use Rattle.vi_removals.proofs.Views.{waits-view}
use Rattle.vi_removals.proofs.removals.Removals.waits_for.Goals as goal

pub returns : goal.returns
returns c =
    let place = rw (← c.self.view_is) at c.requires in
    rw (← c.self.view_is) (c.waits_for.ensures ∙ waits-view c.self.inside.ids.items c.self.inside.calls c.args.place c.self.inside.ops c.self.invariant.tied place)
