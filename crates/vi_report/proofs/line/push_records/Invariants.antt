use Rattle.std.proofs.Common.{◌≡◌, ℕ, ◌<◌, ◌++◌, get_or, take}
use Rattle.std.specs.List.{flat_map}
use Rattle.std.specs.String.{string_bytes}
use Rattle.vi_history.specs.declared.outcome.Shown.{Shown}
use Rattle.vi_report.specs.Texts.{record_line}
use Rattle.vi_report.specs.Types.{IsTypedShown}
use Rattle.vi_report.proofs.line.push_records.Given as goal

abbrev pub invariant-loop-delivered : goal.invariant-loop-delivered
invariant-loop-delivered l = record {
  written : string_bytes l.out ≡ string_bytes l.initial.out ++ flat_map record_line (take l.delivered-index l.shown);
  typed : (k : ℕ) (d : Shown) → k < l.delivered-index → IsTypedShown (get_or l.shown k d);
}
