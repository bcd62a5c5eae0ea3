use Rattle.std.proofs.Common.{Some, None, sym, ◌∙◌}
use Rattle.vi_control.specs.Inner.{seen}
use Rattle.vi_control.proofs.Serving.{free_is_there, frame_is_there, turn_parked, turn_frame, no_turn, frame_ack, frame_up}
use Rattle.vi_control.proofs.Working.{planned_ids, first_free_is, frame_found}
use Rattle.vi_control.proofs.control.Control.serve.Goals as goal

pub serve_parked-requires-clause-there : goal.serve_parked-requires-clause-there
serve_parked-requires-clause-there c =
    let p = c.self.inside in
    free_is_there p.device.dev p.removals p.lanes c.in-Some.place (sym c.first_free.ensures.first ∙ c.in-Some.is)

pub returns-in-Some-clause-turn : goal.returns-in-Some-clause-turn
returns-in-Some-clause-turn c =
    let p = c.self.inside in
    let work = rw (← c.self.view_is) at c.requires.work in
    rw (← c.self.view_is)
    (λ s e. turn_parked s (seen p).state c.in-Some.place (work s e) (first_free_is s p (planned_ids s (seen p).plan e) ∙ (sym c.first_free.ensures.first ∙ c.in-Some.is)) ∙ c.serve_parked.ensures.turn s e)

pub returns-in_err-place-clause-turn : goal.returns-in_err-place-clause-turn
returns-in_err-place-clause-turn c =
    let p = c.self.inside in
    let work = rw (← c.self.view_is) at c.requires.work in
    rw (← c.self.view_is)
    (λ s e. absurd (no_turn s (seen p).state (work s e) (first_free_is s p (planned_ids s (seen p).plan e) ∙ (sym c.first_free.ensures.first ∙ c.in_default.is))
    (frame_found s p c.endpoints.result None (planned_ids s (seen p).plan e) c.self.invariant c.endpoints.ensures (sym c.first_frame.ensures.first ∙ c.in_err-place.was))))

pub returns-then-has_ack-clause-turn : goal.returns-then-has_ack-clause-turn
returns-then-has_ack-clause-turn c =
    let p = c.self.inside in
    let work = rw (← c.self.view_is) at c.requires.work in
    rw (c.serve_ack.ensures, ← c.self.view_is)
    (λ s e. turn_frame s (seen p).state c.in_ok-place.place (work s e) (first_free_is s p (planned_ids s (seen p).plan e) ∙ (sym c.first_free.ensures.first ∙ c.in_default.is))
    (frame_found s p c.endpoints.result (Some c.in_ok-place.place) (planned_ids s (seen p).plan e) c.self.invariant c.endpoints.ensures (sym c.first_frame.ensures.first ∙ c.in_ok-place.was))
    ∙ frame_ack s (seen p).state c.in_ok-place.place (sym c.has_ack.ensures.test ∙ c.if-has_ack.true))

pub serve_up-requires-clause-there : goal.serve_up-requires-clause-there
serve_up-requires-clause-there c =
    frame_is_there c.self.inside.lanes c.endpoints.result c.in_ok-place.place (sym c.first_frame.ensures.first ∙ c.in_ok-place.was) (sym c.has_ack.ensures.test ∙ c.if-has_ack.false)

pub returns-clause-turn : goal.returns-clause-turn
returns-clause-turn c =
    let p = c.self.inside in
    let work = rw (← c.self.view_is) at c.requires.work in
    rw (← c.self.view_is)
    (λ s e. turn_frame s (seen p).state c.in_ok-place.place (work s e) (first_free_is s p (planned_ids s (seen p).plan e) ∙ (sym c.first_free.ensures.first ∙ c.in_default.is))
    (frame_found s p c.endpoints.result (Some c.in_ok-place.place) (planned_ids s (seen p).plan e) c.self.invariant c.endpoints.ensures (sym c.first_frame.ensures.first ∙ c.in_ok-place.was))
    ∙ (frame_up s (seen p).state c.in_ok-place.place (sym c.has_ack.ensures.test ∙ c.if-has_ack.false) ∙ c.serve_up.ensures.turn s e))
