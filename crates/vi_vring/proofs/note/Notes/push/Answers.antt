use Rattle.std.proofs.Common.{sym, refl, ap, find, ◌∙◌, arith}
use Rattle.vi_vring.specs.Notes.{has_head}
use Rattle.vi_vring.proofs.NoteLemmas.{unread_room, without_none}
use Rattle.vi_vring.proofs.note.Notes.push.Goals as goal

pub push_reserved-requires : goal.push_reserved-requires
push_reserved-requires c =
    let w = rw (← c.self.view_is) at c.requires in
    let room = unread_room _ w c.args.head c.in-Some.note (ap (λ h. find (has_head h) c.self.inside.popped.items) (sym c.from.ensures) ∙ sym c.in-Some.ensures.note) in
    omega (arith, room, c.self.inside.unread.ok.0, c.self.invariant.3)

pub returns-in-None : goal.returns-in-None
returns-in-None c =
    let found = ap (λ h. find (has_head h) c.self.inside.popped.items) (sym c.from.ensures) ∙ sym c.in-None.ensures.note in
    let same = without_none c.args.head c.self.inside.popped.items (ap (λ h. find (has_head h) c.self.inside.popped.items) (sym c.from.ensures) ∙ sym c.in-None.ensures.note) in
    rw (← c.self.view_is, c.in-None.ensures.rest, c.from.ensures, same, found) refl
