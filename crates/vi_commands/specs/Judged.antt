-- The input of `check`: a script, the line `report`, and a report.
use Rattle.std.specs.Prelude.{ℕ, ◌+◌, List, [], ◌∷◌, ◌++◌, length, take, drop, position, Option, Some, None, Result, Ok, Err, codes}
use Rattle.std.specs.List.{flat_map}
use Rattle.vi_words.specs.Words.{lines_of_text, is_word}
use Rattle.vi_lines.specs.Value.{ScriptValue}
use Rattle.vi_script.specs.Texts.{script, Bad}
use Rattle.vi_script.specs.declared.fault.BadKind.TheVariants as bad

-- how many lines stand above the first line that is exactly `report`, if there is one
abbrev pub lines_above : List ℕ → Option ℕ
lines_above input = position (λ line. is_word line (codes "report")) (lines_of_text input)

-- the bytes of lines, each with its LF
abbrev pub bytes_of_lines : List (List ℕ) → List ℕ
bytes_of_lines lines = flat_map (λ line. line ++ 10 ∷ []) lines

-- the input above a line `report` that has so many lines above it
abbrev pub script_above : List ℕ → ℕ → List ℕ
script_above input count = bytes_of_lines (take count (lines_of_text input))

-- the input behind that line, which has 7 bytes with its LF
abbrev pub report_behind : List ℕ → ℕ → List ℕ
report_behind input count = drop (length (script_above input count) + 7) input

-- where no line `report` is there, a script is refused at the line after the last
abbrev pub without_report : ℕ → Result ScriptValue Bad → Result ScriptValue Bad
without_report count (Ok s) = Err (record { line = count + 1; kind = bad.Report })
without_report count (Err refused) = Err refused

-- the script that is to be judged, or the first line at which it is refused
abbrev pub judged_at : List ℕ → Option ℕ → Result ScriptValue Bad
judged_at input None = without_report (length (lines_of_text input)) (script input)
judged_at input (Some count) = script (script_above input count)

unfoldable pub judged_script : List ℕ → Result ScriptValue Bad
judged_script input = judged_at input (lines_above input)

-- the bytes of the report
abbrev pub report_at : List ℕ → Option ℕ → List ℕ
report_at input None = []
report_at input (Some count) = report_behind input count

unfoldable pub judged_report : List ℕ → List ℕ
judged_report input = report_at input (lines_above input)
