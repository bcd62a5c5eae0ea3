-- What holds of every load script.
use Rattle.std.specs.Prelude.{◌≡◌, ℕ, ◌+◌, ◌*◌, ◌≤◌, length, IsOk, IfOk}
use Rattle.vi_words.specs.Words.{lines_of_text}
use Rattle.vi_script.specs.Texts.{script}
use Rattle.vi_make.specs.LoadScript.{load_script}

-- the load script of 1 to 400 rounds is a script: none of its lines is refused
abbrev pub IsAccepted : Type 0
IsAccepted = (rounds : ℕ) → 1 ≤ rounds → rounds ≤ 400 → IsOk (script (load_script rounds))

-- its text has twenty lines for each round, and eleven more
abbrev pub HasTextLines : Type 0
HasTextLines = (rounds : ℕ) → 1 ≤ rounds → rounds ≤ 400 → length (lines_of_text (load_script rounds)) ≡ 20 * rounds + 11

-- of these, twenty for each round and four more are lines of drivers and endpoints
abbrev pub HasCallerLines : Type 0
HasCallerLines = (rounds : ℕ) → 1 ≤ rounds → rounds ≤ 400 → IfOk (script (load_script rounds)) (λ s. length s.lines ≡ 20 * rounds + 4)
