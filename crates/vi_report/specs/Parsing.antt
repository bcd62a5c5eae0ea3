-- What the readers of a report answer, and which fault the first line that doesn't fit is.
use Rattle.std.specs.Prelude.{◌≡◌, ℕ, List, ◌++◌, Option, Some, None, Result, Ok, Err, codes}
use Rattle.std.specs.Fmt.{decimal}
use Rattle.hex.specs.declared.error.FromHexError.{FromHexError}
use Rattle.hex.specs.declared.error.FromHexError.TheVariants as digits
use Rattle.vi_report.specs.declared.fault.Refusal.{Refusal}
use Rattle.vi_report.specs.declared.fault.Refusal.TheVariants as refusal
use Rattle.vi_report.specs.declared.fault.ReportFault.{ReportFault}
use Rattle.vi_report.specs.declared.fault.ReportFault.TheVariants as fault

-- What was found is what stands there, seen as such a value; where nothing was found, nothing stands there.
abbrev pub Finds : {T V : Type 0} → (T → V) → Option T → Option V → Type 0
Finds value (Some x) there = there ≡ Some (value x)
Finds value None there = there ≡ None

-- The same of a reader that takes memory: it may also be refused because memory is out.
abbrev pub Reads : {T V : Type 0} → (T → V) → Result T Refusal → Option V → Type 0
Reads value (Ok x) there = there ≡ Some (value x)
Reads value (Err refusal.Unfit) there = there ≡ None
Reads value (Err refusal.OutOfMemory) there = Unit {0}

-- digits are refused as unfit, or because memory is out
abbrev pub refusal_of : FromHexError → Refusal
refusal_of (digits.InvalidHexCharacter c index) = refusal.Unfit
refusal_of digits.OddLength = refusal.Unfit
refusal_of digits.InvalidStringLength = refusal.Unfit
refusal_of digits.OutOfMemory = refusal.OutOfMemory

-- a refusal of the line of this number
abbrev pub fault_at : ℕ → Refusal → ReportFault
fault_at line refusal.Unfit = fault.Bad line
fault_at line refusal.OutOfMemory = fault.OutOfMemory

-- the fault is the first line that doesn't fit, or memory was wanting
abbrev pub Faults : {V : Type 0} → ReportFault → Result V ℕ → Type 0
Faults (fault.Bad line) read = read ≡ Err line
Faults fault.OutOfMemory read = Unit {0}

-- What was read is what stands there, seen as such a value; else the fault says which line doesn't fit.
abbrev pub ReadsLines : {T V : Type 0} → (T → V) → Result T ReportFault → Result V ℕ → Type 0
ReadsLines value (Ok x) there = there ≡ Ok (value x)
ReadsLines value (Err e) there = Faults e there

-- the text of a fault: the number of the bad line
abbrev pub fault_text : ReportFault → List ℕ
fault_text (fault.Bad line) = codes "bad report line " ++ decimal line
fault_text fault.OutOfMemory = codes "out of memory"
