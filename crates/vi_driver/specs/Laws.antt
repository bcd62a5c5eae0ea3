-- What is known of a driver's own lines.
use Rattle.std.specs.Prelude.{◌≡◌, ℕ, ◌+◌}
use Rattle.vi_history.specs.declared.call.Caller.TheVariants.{Driver}
use Rattle.vi_lines.specs.Value.{ScriptValue}
use Rattle.vi_lines.specs.Calls.{line_of}
use Rattle.vi_model.specs.Drivers.{Stand, is_one_batch}
use Rattle.vi_driver.specs.Drivers.{own_driver, continues_batch, next_line}

-- a driver's own lines say as much as the whole script of whether its open lines are in the batch of the next one, and
-- of which line that is
abbrev pub OwnLinesSuffice : Type 0
OwnLinesSuffice = (s : ScriptValue) (driver : ℕ) (d : Stand)
    → (continues_batch (own_driver s driver d) ≡ is_one_batch s driver d)
    × (next_line (own_driver s driver d) ≡ line_of s (Driver driver) (d.submitted + 1))
