-- The scripts that can be played: valid ones whose requests fit their fields.
use Rattle.vi_lines.specs.Value.{ScriptValue}
use Rattle.vi_lines.specs.Valid.{IsValid}
use Rattle.vi_lines.specs.Fields.{HasFields}

pub record IsPlayable (s : ScriptValue) : Type 0 where
  pub valid : IsValid s
  pub fields : HasFields s
