use Rattle.std.proofs.Common.{◌≡◌, vec_capacity}
use Rattle.vi_vring.specs.Notes.{up_to}
use Rattle.vi_vring.proofs.note.Notes.build.Given as goal

abbrev pub invariant-loop-d : goal.invariant-loop-d
invariant-loop-d l = (l.free.items ≡ up_to l.d) × (vec_capacity l.free ≡ l.room)
