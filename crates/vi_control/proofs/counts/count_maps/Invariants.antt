use Rattle.std.proofs.Common.{◌≡◌, ◌≤◌, take}
use Rattle.std.specs.List.{count_by}
use Rattle.vi_lines.specs.Calls.{driver_call}
use Rattle.vi_model.specs.Rooms.{is_map}
use Rattle.vi_model.specs.Tasks.{task_in}
use Rattle.vi_control.proofs.counts.count_maps.Given as goal

abbrev pub invariant-loop-line : goal.invariant-loop-line
invariant-loop-line l = record {
  count : l.count ≡ count_by (λ l. is_map (task_in (driver_call l.job))) (take l.line-index l.lines);
  few : l.count ≤ l.line-index;
}
