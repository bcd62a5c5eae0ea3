-- Histories to which nothing is left to add.
use Rattle.std.specs.Prelude.{◌≡◌, ◌+◌, ◌<◌, ◌≤◌, ℕ, List, length}
use Rattle.vi_history.specs.declared.call.Caller.TheVariants.{Driver, Back}
use Rattle.vi_history.specs.declared.entry.Entry.{Entry}
use Rattle.vi_lines.specs.Value.{ScriptValue}
use Rattle.vi_lines.specs.Calls.{lines_of}
use Rattle.vi_lines.specs.Order.{entries_at, due_place}

-- No caller has a call left: each line of a driver has an entry, and each back end is behind its last line.
pub record IsFinished (s : ScriptValue) (entries : List Entry) : Type 0 where
  pub drivers : (number line : ℕ) → 1 ≤ line → line ≤ length (lines_of s (Driver number)) → 0 < entries_at (Driver number) line entries
  pub backs : (endpoint : ℕ) → due_place s (Back endpoint) entries ≡ record { line = length (lines_of s (Back endpoint)) + 1; part = 1 }
