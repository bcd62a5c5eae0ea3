use Rattle.std.proofs.Common.{◌≡◌, ◌<◌, ◌^◌, drop}
use Rattle.vi_report.proofs.FieldReading.{capped_after}
use Rattle.vi_report.proofs.reading.field.worth.Given as goal

abbrev pub invariant-loop-digit : goal.invariant-loop-digit
invariant-loop-digit l = record {
  spelled : capped_after l.worth (drop l.digit-index l.digits) ≡ capped_after 0 l.digits;
  fits : l.worth < 2 ^ 64;
}
