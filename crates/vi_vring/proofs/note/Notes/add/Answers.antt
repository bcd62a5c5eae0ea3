use Rattle.std.proofs.Common.{arith}
use Rattle.vi_vring.proofs.NoteLemmas.{available_room}
use Rattle.vi_vring.proofs.note.Notes.add.Goals as goal

pub push_reserved-requires : goal.push_reserved-requires
push_reserved-requires c =
    let w = rw (← c.self.view_is) at c.requires.whole in
    let room = available_room _ w c.args.read c.args.write (rw (← c.self.view_is) at c.requires.room) in
    omega (arith, room, c.self.inside.available.ok.0, c.self.invariant.1)
