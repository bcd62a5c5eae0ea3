use Rattle.std.proofs.Common.{sym, refl, arith}
use Rattle.vi_vring.proofs.NoteLemmas.{uncollected_room, without_none}
use Rattle.vi_vring.proofs.note.Notes.read.Goals as goal

pub push_reserved-requires : goal.push_reserved-requires
push_reserved-requires c =
    let w = rw (← c.self.view_is) at c.requires in
    let room = uncollected_room _ w c.args.id c.in-Some.note (sym c.in-Some.ensures.note) in
    omega (arith, room, c.self.inside.uncollected.ok.0, c.self.invariant.4)

pub returns-in-None : goal.returns-in-None
returns-in-None c =
    let same = without_none c.args.id c.self.inside.unread.items (sym c.in-None.ensures.note) in
    rw (← c.self.view_is, c.in-None.ensures.rest, same, ← c.in-None.ensures.note) refl
