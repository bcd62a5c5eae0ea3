use Rattle.std.proofs.Common.{◌≡◌, ◌-◌, ◌≤◌, length}
use Rattle.vi_vring.specs.Shown.{walked, shown, Fits}
use Rattle.vi_vring.proofs.walking.gather.Given as goal

abbrev pub invariant-chain : goal.invariant-chain
invariant-chain l = record {
  rest : walked l.n l.area (l.n - l._passed) l.d l.pieces.items ≡ shown l.n l.area l.head;
  fits : Fits l.area l.pieces.items;
  count : length l.pieces.items ≤ l._passed;
}
