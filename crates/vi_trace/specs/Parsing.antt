-- Why a text is no trace.
use Rattle.std.specs.Prelude.{◌≡◌, ℕ, List, Result, Err}
use Rattle.vi_trace.specs.declared.reading.TraceFault.{TraceFault}
use Rattle.vi_trace.specs.declared.reading.TraceFault.TheVariants.{Bad, OutOfMemory}
use Rattle.vi_trace.specs.declared.trace.TraceLine.{TraceLine}

-- the fault is the first line that has no form, or memory was wanting
abbrev pub Faults : TraceFault → Result (List TraceLine) ℕ → Type 0
Faults (Bad line) read = read ≡ Err line
Faults OutOfMemory read = Unit {0}
