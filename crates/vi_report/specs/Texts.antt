-- The report of an outcome as text. Words are separated by one space, and every line ends with LF.
use Rattle.std.specs.Prelude.{◌≡◌, ℕ, ◌+◌, List, [], ◌∷◌, ◌++◌, length, codes, decimal, String, string_bytes}
use Rattle.std.specs.List.{flat_map}
use Rattle.std.specs.Global.{Global}
use Rattle.hex.specs.Hex.{encode_lower}
use Rattle.vi_history.specs.declared.call.Caller.{Caller}
use Rattle.vi_history.specs.declared.call.Caller.TheVariants.{Driver, Back}
use Rattle.vi_history.specs.declared.entry.Entry.{Entry}
use Rattle.vi_history.specs.declared.entry.Kind.{Kind}
use Rattle.vi_history.specs.declared.entry.Kind.TheVariants.{Status, Probed, Nothing, Set, Read, Wrote, Fault}
use Rattle.vi_history.specs.declared.outcome.Outcome.{Outcome}
use Rattle.vi_history.specs.declared.outcome.Shown.{Shown}

-- the first line says how many entries there are
abbrev pub head_line : ℕ → List ℕ
head_line count = codes "viommu history " ++ decimal count ++ codes "\n"

-- a call's name: `dJ.L` for line L of driver J, `bE.L.P` for part P of line L of the back end of endpoint E
abbrev pub name_text : Caller → ℕ → ℕ → List ℕ
name_text (Driver number) line part = codes "d" ++ decimal number ++ codes "." ++ decimal line
name_text (Back endpoint) line part = codes "b" ++ decimal endpoint ++ codes "." ++ decimal line ++ codes "." ++ decimal part

-- an answer by its kind: a status or a reason in decimal, bytes as lower-case digits
abbrev pub answer_text : Kind → ℕ → List ℕ → List ℕ
answer_text Status code bytes = codes "status " ++ decimal code
answer_text Probed code bytes = codes "probed " ++ decimal code ++ codes " " ++ encode_lower bytes
answer_text Nothing code bytes = codes "nothing"
answer_text Set code bytes = codes "set"
answer_text Read code bytes = codes "read " ++ encode_lower bytes
answer_text Wrote code bytes = codes "wrote"
answer_text Fault code bytes = codes "fault " ++ decimal code

-- an entry's line: its number, its name and its answer
unfoldable pub entry_line : ℕ → Entry → List ℕ
entry_line number h =
    decimal number ++ codes " " ++ name_text h.mark.caller h.mark.line h.mark.part ++ codes " " ++ answer_text h.mark.kind h.mark.code h.bytes ++ codes "\n"

-- the lines of the entries, numbered on from this number
abbrev pub entry_lines : ℕ → List Entry → List ℕ
entry_lines number [] = []
entry_lines number (h ∷ hs) = entry_line number h ++ entry_lines (number + 1) hs

-- the faults are those with a delivered record and those whose record was dropped
abbrev pub faults_line : ℕ → ℕ → List ℕ
faults_line shown dropped =
    codes "faults " ++ decimal (shown + dropped) ++ codes " shown " ++ decimal shown ++ codes " dropped " ++ decimal dropped ++ codes "\n"

-- a delivered record's line: the number of its entry and the record as 48 lower-case digits
abbrev pub record_line : Shown → List ℕ
record_line x = decimal x.entry ++ codes " " ++ encode_lower x.bytes ++ codes "\n"

-- the report: the entries numbered from 1, the counts of faults, the delivered records in their order
unfoldable pub text : Outcome → List ℕ
text o =
    head_line (length o.entries) ++ entry_lines 1 o.entries ++ faults_line (length o.shown) o.dropped ++ flat_map record_line o.shown ++ codes "end\n"

-- the new text is the old one with this at its end
abbrev pub Adds : String Global → String Global → List ℕ → Type 0
Adds old new added = string_bytes new ≡ string_bytes old ++ added
