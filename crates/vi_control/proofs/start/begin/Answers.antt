use Rattle.std.proofs.Common.{length, sym, ◌∙◌, refl}
use Rattle.vi_model.specs.Tasks.{reach_of}
use Rattle.vi_control.proofs.Reaching.{reach-addresses}
use Rattle.vi_control.proofs.Telling.{told-first}
use Rattle.vi_control.proofs.start.begin.Goals as goal

pub returns-clause-lanes : goal.returns-clause-lanes
returns-clause-lanes c =
    let first = told-first c.args.waits.now.0 (reach_of c.args.call.now.task) c.args.lanes.now.mail (length c.args.removals.now.ids) (sym c.requires.ids ∙ c.requires.places) in
    rw (first, c.tell.ensures, c.addresses-span.ensures.addresses, reach-addresses c.args.call.now.task) refl
