use Rattle.std.proofs.Common.{◌≡◌, ◌*◌, ◌≤◌, take}
use Rattle.std.specs.List.{sum_by}
use Rattle.vi_model.specs.Rounds.{calls_in}
use Rattle.vi_core.proofs.room.entry_room.Given as goal

abbrev pub invariant-loop-line : goal.invariant-loop-line
invariant-loop-line l = record {
  count : l.count ≡ sum_by (λ l. calls_in l) (take l.line-index l.lines);
  few : l.count ≤ 17 * l.line-index;
}
