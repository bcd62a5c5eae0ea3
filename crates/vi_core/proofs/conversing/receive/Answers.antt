use Rattle.std.proofs.Common.{sym, ◌∙◌}
use Rattle.vi_core.proofs.BackTurnsLinks.{has_placed}
use Rattle.vi_core.proofs.BackTurns.{nothing_taken, hears, takes}
use Rattle.vi_core.proofs.conversing.receive.Goals as goal

pub hear-requires-clause-caller : goal.hear-requires-clause-caller
hear-requires-clause-caller g c =
    let lt = rw (sym c.requires.room.endpoint) at c.requires.room.below in
    rw c.receive.ensures.rest (has_placed c.args.control.now.plan.ids c.args.back.now.id lt)

pub take-requires-clause-caller : goal.take-requires-clause-caller
take-requires-clause-caller g c =
    let lt = rw (sym c.requires.room.endpoint) at c.requires.room.below in
    rw c.receive.ensures.rest (has_placed c.args.control.now.plan.ids c.args.back.now.id lt)

pub returns-in-None-clause-exchange : goal.returns-in-None-clause-exchange
returns-in-None-clause-exchange g c =
    let nothing = sym c.in-None.is ∙ c.receive.ensures.frame in
    let same = nothing_taken c.args.control.now _ c.args.place nothing c.receive.ensures.rest in
    let n = rw same at c.hear.ensures.control in
    let a = rw same at c.hear.ensures.seat in
    let m = rw same at c.hear.ensures.moved in
    hears c.args.control.now _ c.args.place c.args.back.now _ _ c.requires.room c.awaits_agree.ensures nothing n a m

pub returns-in-Some-clause-exchange : goal.returns-in-Some-clause-exchange
returns-in-Some-clause-exchange g c =
    let some = sym c.in-Some.is ∙ c.receive.ensures.frame in
    takes c.args.control.now _ _ c.args.place c.args.back.now _ _ c.requires.room c.frames_agree.ensures some c.receive.ensures.rest c.take.ensures.control c.take.ensures.seat
