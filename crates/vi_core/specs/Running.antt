-- What contracts see of a world.
use Rattle.std.specs.Prelude.{List}
use Rattle.vi_history.specs.declared.entry.Entry.{Entry}
use Rattle.vi_lines.specs.Value.{ScriptValue}
use Rattle.vi_model.specs.Worlds.{World, opening}

-- a script, and the world that turns of its actors have led to
pub record Running : Type 0 where
  pub script : ScriptValue
  pub world : World

-- before the first turn
abbrev pub opened : ScriptValue → Running
opened s = record { script = s; world = opening s }

-- its history
abbrev pub history_of : Running → List Entry
history_of r = let w : World = r.world in w.history
