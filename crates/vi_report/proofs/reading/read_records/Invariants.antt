use Rattle.std.proofs.Common.{◌≡◌, ◌+◌, ◌-◌, ◌≤◌, length}
use Rattle.vi_report.specs.Reading.{records_at}
use Rattle.vi_report.proofs.ReportReading.{behind}
use Rattle.vi_report.proofs.reading.read_records.Given as goal

abbrev pub invariant-loop-i : goal.invariant-loop-i
invariant-loop-i l = record {
  read : behind l.records.items (records_at (l.shown - l.i) l.count (l.line + l.i) l.rest) ≡ records_at l.shown l.count l.line l.bytes;
  shorter : l.i + length l.rest ≤ length l.bytes;
}
