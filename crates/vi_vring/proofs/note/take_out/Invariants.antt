use Rattle.std.proofs.Common.{◌≡◌, ◌++◌, take, drop, find, vec_len, vec_capacity}
use Rattle.vi_vring.specs.Notes.{has_head, without}
use Rattle.vi_vring.proofs.note.take_out.Given as goal

abbrev pub invariant-loop-i : goal.invariant-loop-i
invariant-loop-i l = record {
  same : l.notes.items ≡ l.initial.notes.items;
  length : vec_len l.notes ≡ vec_len l.initial.notes;
  room : vec_capacity l.notes ≡ vec_capacity l.initial.notes;
  found : find (has_head l.head) (drop l.i l.notes.items) ≡ find (has_head l.head) l.notes.items;
  left : take l.i l.notes.items ++ without l.head (drop l.i l.notes.items) ≡ without l.head l.notes.items;
}
