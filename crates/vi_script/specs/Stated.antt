-- Statements as the reader of a text keeps them.
use Rattle.std.specs.Prelude.{◌≡◌, ℕ, Bool, true}
use Rattle.std.specs.List.{list_all}
use Rattle.vi_lines.specs.declared.job.Job.{Job}
use Rattle.vi_lines.specs.declared.job.Job.TheVariants as job
use Rattle.vi_lines.specs.declared.line.Line.{Line}
use Rattle.vi_script.specs.declared.form.Setting.{Setting}
use Rattle.vi_script.specs.declared.form.Setting.TheVariants as setting
use Rattle.vi_script.specs.declared.form.Switch.{Switch}
use Rattle.vi_script.specs.declared.form.Switch.TheVariants as switch
use Rattle.vi_script.specs.declared.statement.JobNumbers.{JobNumbers}
use Rattle.vi_script.specs.declared.statement.JobNumbers.TheVariants as numbers
use Rattle.vi_script.specs.declared.statement.ActorLine.{ActorLine}
use Rattle.vi_script.specs.declared.statement.Parsed.{Parsed}
use Rattle.vi_script.specs.declared.statement.Parsed.TheVariants as parsed
use Rattle.vi_script.specs.Names.{named, all_awaited, all_turned}
use Rattle.vi_script.specs.Statements.{Statement, Memory, Queue, Cache, Granule, Input, Bypass, Events, Endpoint, Reserve, Turns, Actor, names_fit, turn_fits}

-- the job of these numbers, and the line
abbrev pub job_of_numbers : JobNumbers → Job
job_of_numbers (numbers.Ask request) = job.Ask request
job_of_numbers (numbers.Raw read write) = job.Raw read write
job_of_numbers (numbers.Bypass on) = job.Bypass on
job_of_numbers (numbers.Read iova len) = job.Read iova len
job_of_numbers (numbers.Write iova bytes) = job.Write iova bytes

abbrev pub line_of_names : ActorLine → Line
line_of_names a = record { caller = named a.caller; job = job_of_numbers a.job; add = a.add; awaits = all_awaited a.awaits.items }

-- a setting to a number, or on or off
abbrev pub set_to : Setting → ℕ → Statement
set_to setting.Memory n = Memory n
set_to setting.Queue n = Queue n
set_to setting.Cache n = Cache n
set_to setting.Granule n = Granule n

abbrev pub switched : Switch → Bool → Statement
switched switch.Bypass on = Bypass on
switched switch.Events on = Events on

-- the statement that was read
abbrev pub stated : Parsed → Statement
stated (parsed.Sets s n) = set_to s n
stated (parsed.Switches s on) = switched s on
stated (parsed.Endpoint id) = Endpoint id
stated (parsed.Input span) = Input span
stated (parsed.Reserve endpoint region) = Reserve endpoint region
stated (parsed.Turns turns) = Turns (all_turned turns.items)
stated (parsed.Actor l) = Actor (line_of_names l)

-- the names in a statement that was read fit
abbrev pub HasNames : ActorLine → Type 0
HasNames a = names_fit (named a.caller) (all_awaited a.awaits.items) ≡ true

abbrev pub HaveNames : Parsed → Type 0
HaveNames (parsed.Sets s n) = Unit {0}
HaveNames (parsed.Switches s on) = Unit {0}
HaveNames (parsed.Endpoint id) = Unit {0}
HaveNames (parsed.Input span) = Unit {0}
HaveNames (parsed.Reserve endpoint region) = Unit {0}
HaveNames (parsed.Turns turns) = list_all (λ t. turn_fits t) (all_turned turns.items) ≡ true
HaveNames (parsed.Actor l) = HasNames l
