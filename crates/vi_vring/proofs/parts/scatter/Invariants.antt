use Rattle.std.proofs.Common.{◌≡◌, drop}
use Rattle.vi_vring.specs.Parts.{scattered}
use Rattle.vi_vring.proofs.parts.scatter.Given as goal

abbrev pub invariant-loop-piece : goal.invariant-loop-piece
invariant-loop-piece l = scattered (drop l.piece-index l.pieces) l.rest l.area ≡ scattered l.pieces l.bytes l.initial.area
