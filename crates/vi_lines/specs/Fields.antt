-- That the numbers of a script's requests fit the fields of a request (Virtio 1.2, 5.13.6).
use Rattle.std.specs.Prelude.{List}
use Rattle.std.specs.List.{AllByRecursion}
use Rattle.vi_history.specs.Fields.{FieldsFit}
use Rattle.vi_lines.specs.declared.job.Job.{Job}
use Rattle.vi_lines.specs.declared.job.Job.TheVariants as job
use Rattle.vi_lines.specs.declared.line.Line.{Line}
use Rattle.vi_lines.specs.Value.{ScriptValue}

-- those of the request of a job do, if it is one
abbrev pub JobFits : Job → Type 0
JobFits (job.Ask request) = FieldsFit request
JobFits (job.Raw read write) = Unit {0}
JobFits (job.Bypass on) = Unit {0}
JobFits (job.Read iova len) = Unit {0}
JobFits (job.Write iova bytes) = Unit {0}

-- each request of the lines does, and of the script
abbrev pub LinesFit : List Line → Type 0
LinesFit lines = AllByRecursion (λ l. JobFits l.job) lines

abbrev pub HasFields : ScriptValue → Type 0
HasFields s = LinesFit s.lines
