-- Texts line by line.
use Rattle.std.specs.Prelude.{◌≡◌, ℕ, Result, Err}
use Rattle.vi_script.specs.declared.fault.Refusal.{Refusal}
use Rattle.vi_script.specs.declared.fault.Refusal.TheVariants as refusal
use Rattle.vi_script.specs.declared.fault.ScriptFault.{ScriptFault}
use Rattle.vi_script.specs.declared.fault.ScriptFault.TheVariants as fault
use Rattle.vi_lines.specs.Value.{ScriptValue}
use Rattle.vi_script.specs.Texts.{Bad}

-- a refusal of the line of this number
abbrev pub fault_at : ℕ → Refusal → ScriptFault
fault_at line (refusal.Bad kind) = fault.Bad line kind
fault_at line refusal.OutOfMemory = fault.OutOfMemory

-- the fault is the text's first bad line, or memory was wanting
abbrev pub Faults : ScriptFault → Result ScriptValue Bad → Type 0
Faults (fault.Bad line kind) read = read ≡ Err (record { line = line; kind = kind })
Faults fault.OutOfMemory read = Unit {0}
