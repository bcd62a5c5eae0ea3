use Rattle.std.proofs.Common.{◌≡◌, ◌+◌, ◌*◌, ◌≤◌, take}
use Rattle.std.specs.List.{sum_by}
use Rattle.vi_lines.specs.Limits.{bytes_in}
use Rattle.vi_core.specs.HistoryRoom.{answer_bytes}
use Rattle.vi_core.proofs.room.byte_room.Given as goal

abbrev pub invariant-loop-line : goal.invariant-loop-line
invariant-loop-line l = record {
  count : l.count ≡ sum_by (λ l. answer_bytes l.job) (take l.line-index l.lines);
  few : l.count ≤ 512 * l.line-index + bytes_in (take l.line-index l.lines);
}
