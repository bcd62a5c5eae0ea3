use Rattle.std.proofs.Common.{◌∙◌, sym, ap, length, map, refl}
use Rattle.vi_removals.specs.Value.{removals_of}
use Rattle.vi_removals.specs.Inner.{opened_of}
use Rattle.vi_removals.proofs.Views.{free-none, free-removal, without-removals, without_free-none, first-below, without-view, leaves-view}
use Rattle.vi_removals.proofs.Ties.{IsWhole-without, AreOpened-seen}
use Rattle.vi_removals.proofs.removals.Removals.take_ready.Goals as goal

pub bounds-self-inside-number : goal.bounds-self-inside-number
bounds-self-inside-number c = first-below c.self.inside.ops c.in-Some.number c.self.invariant.open_ops.each (sym c.in-Some.ensures.first)

pub invariant_of-self : goal.invariant_of-self
invariant_of-self c = IsWhole-without c.self.inside c.close-what.new.self c.in-Some.number c.self.invariant c.close-what.ensures.left c.close-what.ensures.open

pub returns-in-None-clause-first : goal.returns-in-None-clause-first
returns-in-None-clause-first c =
    let p = c.self.inside in
    rw (← c.self.view_is, free-none p.ids.items p.calls p.ops c.self.invariant.tied (sym c.in-None.ensures.first)) refl

pub returns-in-None-clause-left : goal.returns-in-None-clause-left
returns-in-None-clause-left c =
    let p = c.self.inside in
    let none = free-none p.ids.items p.calls p.ops c.self.invariant.tied (sym c.in-None.ensures.first) in
    rw (← c.self.view_is, without_free-none (map (opened_of p.calls (length p.ids.items)) p.ops) none) refl

pub returns-in-None-clause-removal : goal.returns-in-None-clause-removal
returns-in-None-clause-removal c = free-removal c.args.self.now.opened

pub returns-in-None-clause-removals : goal.returns-in-None-clause-removals
returns-in-None-clause-removals c =
    ap removals_of (returns-in-None-clause-left c) ∙ without-removals c.args.self.now.opened

pub returns-in-None-clause-open : goal.returns-in-None-clause-open
returns-in-None-clause-open c = rw (← c.self.view_is) (AreOpened-seen c.self.inside c.self.invariant)

pub returns-in-Some-clause-first : goal.returns-in-Some-clause-first
returns-in-Some-clause-first c =
    let p = c.self.inside in
    let left = leaves-view p.ids.items p.calls p.ops c.in-Some.number c.close-what.result.0 c.close-what.result.1 c.self.invariant.open_ops.each c.self.invariant.tied (sym c.in-Some.ensures.first) c.close-what.ensures.closed in
    rw (← c.self.view_is, c.ready-in-Some.ensures) left

pub returns-in-Some-clause-left : goal.returns-in-Some-clause-left
returns-in-Some-clause-left c =
    let p = c.self.inside in
    rw (← c.self.view_is, c.close-what.ensures.left, without-view p.ids.items p.calls p.ops c.in-Some.number c.self.invariant.open_ops.each c.self.invariant.tied (sym c.in-Some.ensures.first)) refl

pub returns-in-Some-clause-removal : goal.returns-in-Some-clause-removal
returns-in-Some-clause-removal c = free-removal c.args.self.now.opened

pub returns-in-Some-clause-removals : goal.returns-in-Some-clause-removals
returns-in-Some-clause-removals c =
    ap removals_of (returns-in-Some-clause-left c) ∙ without-removals c.args.self.now.opened

pub returns-in-Some-clause-open : goal.returns-in-Some-clause-open
returns-in-Some-clause-open c = AreOpened-seen _ (invariant_of-self c)
