use Rattle.std.proofs.Common.{◌≡◌, ◌+◌, ◌-◌, ◌≤◌, length}
use Rattle.vi_report.specs.Reading.{entries_at}
use Rattle.vi_report.proofs.ReportReading.{behind}
use Rattle.vi_report.proofs.reading.read_entries.Given as goal

abbrev pub invariant-loop-i : goal.invariant-loop-i
invariant-loop-i l = record {
  read : behind l.entries.items (entries_at (l.count - l.i) (l.i + 1) l.rest) ≡ entries_at l.count 1 l.bytes;
  shorter : l.i + length l.rest ≤ length l.bytes;
}
