use Rattle.std.proofs.Common.{sym, refl, ap, find, ◌∙◌, arith}
use Rattle.vi_vring.specs.Notes.{has_head}
use Rattle.vi_vring.proofs.NoteLemmas.{free_room, without_none}
use Rattle.vi_vring.proofs.note.Notes.collect.Goals as goal

pub give_back-requires : goal.give_back-requires
give_back-requires c =
    let w = rw (← c.self.view_is) at c.requires in
    let room = free_room _ w c.args.head c.in-Some.note (ap (λ h. find (has_head h) c.self.inside.uncollected.items) (sym c.from.ensures) ∙ sym c.in-Some.ensures.note) in
    omega (arith, room, c.self.inside.free.ok.0, c.self.invariant.0)

pub returns-in-None-clause-collected : goal.returns-in-None-clause-collected
returns-in-None-clause-collected c =
    let found = ap (λ h. find (has_head h) c.self.inside.uncollected.items) (sym c.from.ensures) ∙ sym c.in-None.ensures.note in
    let same = without_none c.args.head c.self.inside.uncollected.items (ap (λ h. find (has_head h) c.self.inside.uncollected.items) (sym c.from.ensures) ∙ sym c.in-None.ensures.note) in
    rw (← c.self.view_is, c.in-None.ensures.rest, c.from.ensures, same, found) refl
