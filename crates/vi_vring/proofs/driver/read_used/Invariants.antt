use Rattle.std.proofs.Common.{◌≡◌, ◌<◌, ◌^◌}
use Rattle.vi_vring.specs.Notes.{Whole}
use Rattle.vi_vring.specs.Reads.{read_from, index_gap}
use Rattle.vi_vring.proofs.driver.read_used.Given as goal

abbrev pub invariant-loop-index : goal.invariant-loop-index
invariant-loop-index l = record {
  whole : Whole l.notes;
  rest : read_from l.n l.area (index_gap l.index l.end) l.index l.notes ≡ read_from l.n l.area (index_gap l.initial.index l.end) l.initial.index l.initial.notes;
  small : l.index < 2 ^ 16;
}

abbrev pub decreases-loop-index : goal.decreases-loop-index
decreases-loop-index l = index_gap l.index l.end
