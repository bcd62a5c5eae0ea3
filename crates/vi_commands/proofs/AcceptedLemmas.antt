-- Every script that a command takes is valid.
use Rattle.std.proofs.Common.{◌≡◌, ℕ, List, Option, Some, None}
use Rattle.std.specs.Prelude as std
use Rattle.vi_script.proofs.SoundLemmas.{script-valid}
use Rattle.vi_lines.specs.Value.{ScriptValue}
use Rattle.vi_script.specs.Texts.{script, Bad}
use Rattle.vi_lines.specs.Valid.{IsValid}
use Rattle.vi_commands.specs.Accepted.{accepts}
use Rattle.vi_commands.specs.Judged.{lines_above, script_above, without_report, judged_at, judged_script}
use Rattle.vi_commands.specs.declared.command.Task.{Task}
use Rattle.vi_commands.specs.declared.command.Task.TheVariants.{Sim, One, Check}

-- without a report there is no script
none_without : (count : ℕ) (r : std.Result ScriptValue Bad) (s : ScriptValue) → without_report count r ≡ std.Ok s → IsValid s
none_without count (std.Ok t) s is = absurd (cc is)
none_without count (std.Err bad) s is = absurd (cc is)

judged-valid : (input : List ℕ) (o : Option ℕ) (s : ScriptValue) → judged_at input o ≡ std.Ok s → IsValid s
judged-valid input None s is = none_without _ (script input) s is
judged-valid input (Some count) s is = script-valid (script_above input count) s is

pub accepts-valid : (task : Task) (input : List ℕ) (s : ScriptValue) → accepts task input ≡ std.Ok s → IsValid s
unfolding judged_script
accepts-valid (Sim generator_seed moves) input s is = script-valid input s is
accepts-valid One input s is = script-valid input s is
accepts-valid Check input s is = judged-valid input (lines_above input) s is
