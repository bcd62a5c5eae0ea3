use Rattle.std.proofs.Common.{arith}
use Rattle.vi_vring.proofs.NoteLemmas.{popped_room}
use Rattle.vi_vring.proofs.note.Notes.pop.Goals as goal

pub push_reserved-requires : goal.push_reserved-requires
push_reserved-requires c =
    let w = rw (← c.self.view_is) at c.requires in
    let room = popped_room _ w (omega (arith, c.remove-note.ensures.len, c.self.inside.available.ok.0)) in
    omega (arith, room, c.self.inside.popped.ok.0, c.self.invariant.2)
