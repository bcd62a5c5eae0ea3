-- What reading all the input comes to, where the source tells what is left.
use Rattle.std.specs.Prelude.{◌≡◌, ◌≤◌, ◌<◌, ℕ, List, [], length, Some, None, ⊤, codes}
use Rattle.std.specs.declared.option.Option.{Option}
use Rattle.std.specs.Io.KnownBytes.{Consumes}
use Rattle.vi_commands.specs.declared.input.InputFault.{InputFault}
use Rattle.vi_commands.specs.declared.input.InputFault.TheVariants.{TooLong, ReadFault, OutOfMemory}

-- these bytes were all that was left, and nothing is left now
abbrev pub ReadsAll : Option (List ℕ) → Option (List ℕ) → List ℕ → Type 0
ReadsAll None new input = ⊤
ReadsAll (Some left) new input = (input ≡ left) × (new ≡ Some [])

-- more bytes than the limit were left
abbrev pub IsPast : ℕ → Option (List ℕ) → Type 0
IsPast limit None = ⊤
IsPast limit (Some left) = limit < length left

-- the first bytes of what was left were taken, at most so many; a source that told what is left tells it
-- still
abbrev pub TakesAtMost : ℕ → Option (List ℕ) → Option (List ℕ) → Type 0
TakesAtMost most old new = (bytes : List ℕ) × (length bytes ≤ most) × Consumes old new bytes

-- why the input wasn't read to its end, in words
abbrev pub fault_text : InputFault → List ℕ
fault_text TooLong = codes "the input is longer than the limit"
fault_text ReadFault = codes "reading the input failed"
fault_text OutOfMemory = codes "out of memory"
