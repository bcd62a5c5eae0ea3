use Rattle.std.proofs.Common.{◌<◌, length, drop, inl, arith}
use Rattle.vi_lanes.specs.Frames.{said}
use Rattle.vi_lanes.specs.Value.{lanes_at}
use Rattle.vi_control.specs.Value.{made_by}
use Rattle.vi_control.proofs.Serving.{up_first, taken_room, taken_fault, served_up}
use Rattle.vi_control.proofs.control.Control.serve_up.Goals as goal

pub serve_miss-requires-clause-grant : goal.serve_miss-requires-clause-grant
serve_miss-requires-clause-grant c =
    let p = c.self.inside in
    let place = rw (← c.self.view_is) at c.requires.place in
    let room = rw (← c.self.view_is) at c.requires.room in
    let first = c.in_ok-miss.ensures.oldest in
    let here = room.miss c.args.place (said c.in_ok-miss.miss) place (inl (drop 1 (lanes_at c.args.place p.lanes).up, up_first (lanes_at c.args.place p.lanes).up (said c.in_ok-miss.miss) first)) in
    let mail = c.self.invariant.mail in
    let below : c.args.place < length p.lanes.mail = omega (arith, place, mail) in
    rw c.take_miss.ensures.rest (taken_room p c.args.place (said c.in_ok-miss.miss) below here)

pub serve_miss-requires-clause-fault : goal.serve_miss-requires-clause-fault
serve_miss-requires-clause-fault c =
    let p = c.self.inside in
    let place = rw (← c.self.view_is) at c.requires.place in
    let room = rw (← c.self.view_is) at c.requires.room in
    let first = c.in_ok-miss.ensures.oldest in
    let here = room.miss c.args.place (said c.in_ok-miss.miss) place (inl (drop 1 (lanes_at c.args.place p.lanes).up, up_first (lanes_at c.args.place p.lanes).up (said c.in_ok-miss.miss) first)) in
    let mail = c.self.invariant.mail in
    let below : c.args.place < length p.lanes.mail = omega (arith, place, mail) in
    rw c.take_miss.ensures.rest (taken_fault p c.args.place (said c.in_ok-miss.miss) below here)

pub returns-clause-turn : goal.returns-clause-turn
returns-clause-turn c =
    let p = c.self.inside in
    let place = rw (← c.self.view_is) at c.requires.place in
    let mail = c.self.invariant.mail in
    let below : c.args.place < length p.lanes.mail = omega (arith, place, mail) in
    let served = rw c.take_miss.ensures.rest at c.serve_miss.ensures.turn in
    rw (← c.self.view_is) (λ s e. served_up s p c.args.place (said c.in_ok-miss.miss) (made_by c.serve_miss.new.self c.serve_miss.result) c.in_ok-miss.ensures.oldest below (served s e))
