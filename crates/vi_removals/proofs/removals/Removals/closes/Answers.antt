use Rattle.std.proofs.Common.{◌∙◌}
use Rattle.vi_removals.proofs.Views.{closes-view}
use Rattle.vi_removals.proofs.removals.Removals.closes.Goals as goal

pub returns : goal.returns
returns c = λ dev ids_are now_is.
    let p = c.self.inside in
    let place = rw (← c.self.view_is) at c.requires.place in
    let distinct = rw (← c.self.view_is) at c.requires.distinct in
    let ids = rw (← c.self.view_is) at ids_are in
    rw (← c.self.view_is) (c.closes.ensures ∙ closes-view dev p.ids.items p.calls c.args.place c.args.page c.args.now p.ops c.self.invariant.tied distinct place c.requires.page ids now_is)
