-- An input cut at its first line `report`.
use Rattle.std.specs.Prelude.{◌≡◌, ◌≤◌, ℕ, List, length, Some}
use Rattle.vi_commands.specs.Judged.{lines_above, script_above, report_behind}

-- these bytes stand above that line, and these behind it
pub record IsCutAt (input script report : List ℕ) : Type 0 where
  pub count : ℕ
  pub found : lines_above input ≡ Some count
  pub is_above : script ≡ script_above input count
  pub is_behind : report ≡ report_behind input count
  pub script_within : length script ≤ length input
  pub report_within : length report ≤ length input
