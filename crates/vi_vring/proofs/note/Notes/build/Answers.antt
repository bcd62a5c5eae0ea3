use Rattle.std.proofs.Common.{ℕ, List, length, ap, ◌∙◌, arith}
use Rattle.vi_vring.proofs.NoteLemmas.{length-up_to}
use Rattle.vi_vring.proofs.note.Notes.build.Goals as goal

pub push_reserved-requires : goal.push_reserved-requires
push_reserved-requires c =
    let count = ap (λ (xs : List ℕ). length xs) c.loop-d.invariant.0 ∙ length-up_to c.loop-d.d in
    omega (arith, c.loop-d.free.ok.0, count, c.loop-d.invariant.1, c.loop-d-test.true, c.from-room.ensures)
