use Rattle.std.proofs.Common.{◌≡◌, take}
use Rattle.vi_history.specs.declared.call.Caller.{Caller}
use Rattle.vi_lines.specs.Index.{row_places, places_from}
use Rattle.vi_lines.proofs.index.rows_of.Given as goal

abbrev pub invariant-loop-place : goal.invariant-loop-place
invariant-loop-place l = (caller : Caller) → row_places caller l.rows.items ≡ places_from 0 caller (take l.place l.lines)
