use Rattle.std.proofs.Common.{◌∙◌, ap, arith, length}
use Rattle.std.proofs.lemmas.List.{length-map}
use Rattle.vi_state.proofs.Places.{place_in, place_found}
use Rattle.vi_state.proofs.state.State.place.Goals as goal

pub overflow_cast-result : goal.overflow_cast-result
overflow_cast-result c =
    let xs = c.self.inside.device.dev.endpoints in
    let p = place_found xs c.args.endpoint (rw (← c.self.view_is) at c.requires) in
    let is = c.place_of.ensures ∙ ap (place_in c.args.endpoint) (c.deref.ensures.value ∙ c.self.invariant.ids) in
    let size = ap length c.self.invariant.ids ∙ length-map xs (λ x. x.id) in
    omega (arith, is, p.0, size, c.self.invariant.few)

pub returns-clause-within : goal.returns-clause-within
returns-clause-within c =
    let p = place_found c.self.inside.device.dev.endpoints c.args.endpoint (rw (← c.self.view_is) at c.requires) in
    let is = c.place_of.ensures ∙ ap (place_in c.args.endpoint) (c.deref.ensures.value ∙ c.self.invariant.ids) in
    rw (← c.self.view_is, is) p.0

pub returns-clause-id : goal.returns-clause-id
returns-clause-id c =
    let p = place_found c.self.inside.device.dev.endpoints c.args.endpoint (rw (← c.self.view_is) at c.requires) in
    let is = c.place_of.ensures ∙ ap (place_in c.args.endpoint) (c.deref.ensures.value ∙ c.self.invariant.ids) in
    rw (← c.self.view_is, is) p.1
