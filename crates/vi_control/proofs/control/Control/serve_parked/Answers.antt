use Rattle.std.proofs.Common.{sym, inr}
use Rattle.vi_lanes.specs.Frames.{said}
use Rattle.vi_control.specs.Value.{made_by}
use Rattle.vi_control.proofs.Serving.{served_parked}
use Rattle.vi_control.proofs.control.Control.serve_parked.Goals as goal

pub serve_miss-requires-clause-grant : goal.serve_miss-requires-clause-grant
serve_miss-requires-clause-grant c =
    let place = rw (← c.self.view_is) at c.requires.place in
    let room = rw (← c.self.view_is) at c.requires.room in
    let here = room.miss c.args.place (said c.in_ok-miss.miss) place (inr (sym c.in_ok-miss.ensures.parked)) in
    rw c.unpark.ensures.rest (record { grant = here.grant; update = here.update; reply = here.reply })

pub serve_miss-requires-clause-fault : goal.serve_miss-requires-clause-fault
serve_miss-requires-clause-fault c =
    let place = rw (← c.self.view_is) at c.requires.place in
    let room = rw (← c.self.view_is) at c.requires.room in
    let here = room.miss c.args.place (said c.in_ok-miss.miss) place (inr (sym c.in_ok-miss.ensures.parked)) in
    rw c.unpark.ensures.rest (record { reply = here.reply; shown = here.shown; faults = here.faults })

pub returns-clause-turn : goal.returns-clause-turn
returns-clause-turn c =
    let served = rw c.unpark.ensures.rest at c.serve_miss.ensures.turn in
    let free = rw c.unpark.ensures.rest at c.unpark.ensures.free in
    rw (← c.self.view_is)
    (λ s e. served_parked s c.self.inside c.args.place (said c.in_ok-miss.miss) (made_by c.serve_miss.new.self c.serve_miss.result) (sym c.in_ok-miss.ensures.parked) free (served s e))
