-- How many lines each caller has had.
use Rattle.std.specs.Prelude.{ℕ, List, Option, Some, None}
use Rattle.std.specs.List.{find}
use Rattle.vi_history.specs.declared.call.Caller.{Caller}
use Rattle.vi_lines.specs.Calls.{same_caller}
use Rattle.vi_commands.specs.declared.counts.Count.{Count}

-- the number in a row, 0 where there is none
abbrev pub number_in : Option Count → ℕ
number_in None = 0
number_in (Some row) = row.lines

abbrev pub number_for : List Count → Caller → ℕ
number_for rows caller = number_in (find (λ row. same_caller row.caller caller) rows)
