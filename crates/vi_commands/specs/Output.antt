-- What writing a text comes to, where the sink tells what it took.
use Rattle.std.specs.Prelude.{◌<◌, ℕ, List, length, take}
use Rattle.std.specs.declared.option.Option.{Option}
use Rattle.std.specs.Io.KnownBytes.{Appends}

-- the sink took the first bytes of the text, and not all of them
abbrev pub TakesProperPrefix : Option (List ℕ) → Option (List ℕ) → List ℕ → Type 0
TakesProperPrefix old new text = (n : ℕ) × (n < length text) × Appends old new (take n text)
