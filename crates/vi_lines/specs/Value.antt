-- A script as contracts see it.
use Rattle.std.specs.Prelude.{List}
use Rattle.vi_history.specs.declared.setup.Setup.{Setup}
use Rattle.vi_lines.specs.declared.line.Line.{Line}
use Rattle.vi_lines.specs.declared.line.Who.{Who}

-- the setup, the turns and the lines in the order of the text
pub record ScriptValue : Type 0 where
  pub setup : Setup
  pub turns : List Who
  pub lines : List Line
