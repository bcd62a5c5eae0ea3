-- The texts of refusals, and what reading a part of a text gives.
use Rattle.std.specs.Prelude.{◌≡◌, ℕ, List, ◌++◌, Option, Some, None, Result, Ok, Err, codes}
use Rattle.std.specs.Fmt.{decimal}
use Rattle.vi_script.specs.declared.fault.BadKind.{BadKind}
use Rattle.vi_script.specs.declared.fault.BadKind.TheVariants as bad
use Rattle.vi_script.specs.declared.fault.ScriptFault.{ScriptFault}
use Rattle.vi_script.specs.declared.fault.ScriptFault.TheVariants as fault
use Rattle.vi_script.specs.declared.fault.Refusal.{Refusal}
use Rattle.vi_script.specs.declared.fault.Refusal.TheVariants as refusal

-- the word for a kind of bad line
abbrev pub kind_text : BadKind → List ℕ
kind_text bad.Byte = codes "byte"
kind_text bad.Word = codes "word"
kind_text bad.Late = codes "late"
kind_text bad.Number = codes "number"
kind_text bad.Hex = codes "hex"
kind_text bad.Again = codes "again"
kind_text bad.Endpoint = codes "endpoint"
kind_text bad.Span = codes "span"
kind_text bad.Limit = codes "limit"
kind_text bad.After = codes "after"
kind_text bad.Report = codes "report"

-- the text of a fault: the number of the bad line and the word for what is wrong with it
abbrev pub fault_text : ScriptFault → List ℕ
fault_text (fault.Bad line kind) = codes "bad script line " ++ decimal line ++ codes ": " ++ kind_text kind
fault_text fault.OutOfMemory = codes "out of memory"

-- Words have this form, seen as such a value; where they have none they are refused, unless memory is out.
abbrev pub Refuses : {V : Type 0} → Refusal → Option V → Type 0
Refuses (refusal.Bad kind) form = (kind ≡ bad.Word) × (form ≡ None)
Refuses refusal.OutOfMemory form = Unit {0}

abbrev pub Finds : {T V : Type 0} → (T → V) → Result T Refusal → Option V → Type 0
Finds value (Ok x) form = form ≡ Some (value x)
Finds value (Err refusal) form = Refuses refusal form

-- What was read is what stands there, seen as such a value; what is refused is refused there with this kind, or
-- because memory is out.
abbrev pub Reads : {T V : Type 0} → (T → V) → Result T Refusal → Result V BadKind → Type 0
Reads value (Ok x) meaning = meaning ≡ Ok (value x)
Reads value (Err (refusal.Bad kind)) meaning = meaning ≡ Err kind
Reads value (Err refusal.OutOfMemory) meaning = Unit {0}
