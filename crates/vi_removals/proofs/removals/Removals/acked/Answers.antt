use Rattle.std.proofs.Common.{ℕ, ◌∙◌, ap, length, map, refl}
use Rattle.std.specs.Option.{option_map}
use Rattle.vi_shoot.specs.declared.what.Reach.{Reach}
use Rattle.vi_shoot.specs.Reaches.{reach_span}
use Rattle.vi_removals.specs.Inner.{opened_of}
use Rattle.vi_removals.proofs.Takes.{proper-span}
use Rattle.vi_removals.proofs.Views.{waits-view, acked-view, acked-removals, oldest-view}
use Rattle.vi_removals.proofs.Ties.{IsWhole-acked, AreOpened-seen}
use Rattle.vi_removals.proofs.removals.Removals.acked.Goals as goal

pub acked-number-requires-clause-waits : goal.acked-number-requires-clause-waits
acked-number-requires-clause-waits c =
    let p = c.self.inside in
    let place = rw (← c.self.view_is) at c.requires.place in
    let waits = rw (← c.self.view_is) at c.requires.waits in
    waits-view p.ids.items p.calls c.args.place p.ops c.self.invariant.tied place ∙ waits

pub invariant_of-self : goal.invariant_of-self
invariant_of-self c = IsWhole-acked c.self.inside c.acked-number.new.self c.args.place c.self.invariant c.acked-number.ensures.acked c.acked-number.ensures.open

pub returns-clause-open : goal.returns-clause-open
returns-clause-open c = AreOpened-seen _ (invariant_of-self c)

pub returns-clause-acked : goal.returns-clause-acked
returns-clause-acked c =
    let p = c.self.inside in
    let place = rw (← c.self.view_is) at c.requires.place in
    rw (c.acked-number.ensures.acked, ← c.self.view_is, acked-view p.calls (length p.ids.items) c.args.place p.ops place) refl

pub returns-clause-removals : goal.returns-clause-removals
returns-clause-removals c =
    let p = c.self.inside in
    let place = rw (← c.self.view_is) at c.requires.place in
    rw (c.acked-number.ensures.acked, ← c.self.view_is, acked-view p.calls (length p.ids.items) c.args.place p.ops place)
    (acked-removals c.args.place (map (opened_of p.calls (length p.ids.items)) p.ops))

pub returns-clause-addresses : goal.returns-clause-addresses
returns-clause-addresses c =
    let p = c.self.inside in
    let place = rw (← c.self.view_is) at c.requires.place in
    rw (← c.self.view_is, c.span.ensures)
    (ap (option_map (λ (r : ℕ × Reach). reach_span r.1)) c.acked-number.ensures.oldest ∙ oldest-view p.ids.items p.calls c.args.place p.ops c.self.invariant.tied place)

pub returns-clause-proper : goal.returns-clause-proper
returns-clause-proper c = rw c.span.ensures (proper-span c.acked-number.result.1 c.acked-number.ensures.proper)
