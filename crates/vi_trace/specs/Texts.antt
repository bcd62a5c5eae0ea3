-- Findings and faults as texts.
use Rattle.std.specs.Prelude.{ℕ, List, ◌++◌, codes, decimal}
use Rattle.vi_trace.specs.declared.finding.Rule.{Rule}
use Rattle.vi_trace.specs.declared.finding.Rule.TheVariants.{Frame, Ack, Update, Access}
use Rattle.vi_trace.specs.declared.finding.Finding.{Finding}
use Rattle.vi_trace.specs.declared.finding.Finding.TheVariants.{Held, Broken}
use Rattle.vi_trace.specs.declared.reading.TraceFault.{TraceFault}
use Rattle.vi_trace.specs.declared.reading.TraceFault.TheVariants.{Bad, OutOfMemory}

-- the word for a rule
abbrev pub rule_text : Rule → List ℕ
rule_text Frame = codes "frame"
rule_text Ack = codes "ack"
rule_text Update = codes "update"
rule_text Access = codes "use"

-- `held`, or the line at which a rule is broken and which one, with LF
unfoldable pub finding_text : Finding → List ℕ
finding_text Held = codes "held\n"
finding_text (Broken line rule) = codes "breaks " ++ decimal line ++ codes " " ++ rule_text rule ++ codes "\n"

-- the line that has no form
abbrev pub fault_text : TraceFault → List ℕ
fault_text (Bad line) = codes "bad trace line " ++ decimal line
fault_text OutOfMemory = codes "out of memory"
