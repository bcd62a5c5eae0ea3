use Rattle.std.proofs.Common.{◌≡◌, ℕ, ◌+◌, ◌<◌, ◌++◌, get_or, drop}
use Rattle.std.specs.String.{string_bytes}
use Rattle.vi_history.specs.declared.entry.Entry.{Entry}
use Rattle.vi_report.specs.Texts.{entry_lines}
use Rattle.vi_report.specs.Types.{IsTypedEntry}
use Rattle.vi_report.proofs.line.push_entries.Given as goal

-- what is there and the lines that are still to come are the whole
abbrev pub invariant-loop-i : goal.invariant-loop-i
invariant-loop-i l = record {
  whole : string_bytes l.out ++ entry_lines (l.i + 1) (drop l.i l.entries) ≡ string_bytes l.initial.out ++ entry_lines 1 l.entries;
  typed : (k : ℕ) (d : Entry) → k < l.i → IsTypedEntry (get_or l.entries k d);
}
