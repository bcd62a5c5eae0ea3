use Rattle.std.proofs.Common.{◌≡◌, take}
use Rattle.vi_vring.specs.Shown.{read_total}
use Rattle.vi_vring.specs.Parts.{readable_bytes}
use Rattle.vi_vring.proofs.parts.copy_readable.Given as goal

abbrev pub invariant-loop-piece : goal.invariant-loop-piece
invariant-loop-piece l = record {
  front : take l.done l.out ≡ readable_bytes l.area (take l.piece-index l.pieces);
  done : l.done ≡ read_total (take l.piece-index l.pieces);
}
