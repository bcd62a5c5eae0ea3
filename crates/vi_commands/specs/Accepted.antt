-- Which scripts each command takes, and how many bytes it reads.
use Rattle.std.specs.Prelude.{ℕ, List, Result, Some, None}
use Rattle.std.specs.declared.option.Option.{Option}
use Rattle.vi_lines.specs.Value.{ScriptValue}
use Rattle.vi_script.specs.Texts.{script, Bad}
use Rattle.vi_commands.specs.Judged.{judged_script}
use Rattle.vi_commands.specs.declared.command.Command.{Command}
use Rattle.vi_commands.specs.declared.command.Command.TheVariants.{Script, Text, Make}
use Rattle.vi_commands.specs.declared.command.Task.{Task}
use Rattle.vi_commands.specs.declared.command.Task.TheVariants.{Sim, One, Check}
use Rattle.vi_commands.specs.declared.command.TextTask.{TextTask}
use Rattle.vi_commands.specs.declared.top.TheConstants.{INPUT_LIMIT, CHECK_LIMIT}

-- the script that is taken from the input, or the first line at which the input is refused
abbrev pub accepts : Task → List ℕ → Result ScriptValue Bad
accepts (Sim generator_seed moves) input = script input
accepts One input = script input
accepts Check input = judged_script input

-- how many bytes are read at most, where the input has a script
abbrev pub limit_of : Task → ℕ
limit_of (Sim generator_seed moves) = INPUT_LIMIT
limit_of One = INPUT_LIMIT
limit_of Check = CHECK_LIMIT

-- the task of a command whose input has a script
abbrev pub task_of : Option Command → Option Task
task_of None = None
task_of (Some (Script task)) = Some task
task_of (Some (Text task)) = None
task_of (Some (Make rounds)) = None

-- the task of a command that makes a text of an input without a script
abbrev pub text_task_of : Option Command → Option TextTask
text_task_of None = None
text_task_of (Some (Script task)) = None
text_task_of (Some (Text task)) = Some task
text_task_of (Some (Make rounds)) = None

-- how many bytes of input a command reads at most, if it reads any
abbrev pub input_limit : Option Command → Option ℕ
input_limit None = None
input_limit (Some (Script task)) = Some (limit_of task)
input_limit (Some (Text task)) = Some INPUT_LIMIT
input_limit (Some (Make rounds)) = None
