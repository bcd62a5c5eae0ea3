use Rattle.std.proofs.Common.{sym}
use Rattle.vi_removals.proofs.Takes.{closes-what, reaches-what}
use Rattle.vi_removals.proofs.removals.Removals.takes.Goals as goal

pub returns : goal.returns
returns c = λ dev page ids_are now_is below.
    let w = c.what_of.result in
    let taken = closes-what dev c.args.self.now.ids c.args.task.now w c.args.place page c.args.now c.requires.distinct c.requires.place ids_are now_is (sym c.what_of.ensures) in
    let reached = reaches-what c.args.self.now.ids c.args.task.now w page below (sym c.what_of.ensures) in
    rw (c.is_for.ensures, reached) taken
