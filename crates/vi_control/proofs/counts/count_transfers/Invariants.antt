use Rattle.std.proofs.Common.{◌≡◌, ◌≤◌, take}
use Rattle.std.specs.List.{count_by}
use Rattle.vi_model.specs.Rooms.{is_back}
use Rattle.vi_control.proofs.counts.count_transfers.Given as goal

abbrev pub invariant-loop-line : goal.invariant-loop-line
invariant-loop-line l = record {
  count : l.count ≡ count_by (λ l. is_back l.caller) (take l.line-index l.lines);
  few : l.count ≤ l.line-index;
}
