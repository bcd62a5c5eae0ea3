-- Where the lines of each caller stand among all lines.
use Rattle.std.specs.Prelude.{◌≡◌, ℕ, ◌+◌, if◌then◌else◌, List, [], ◌∷◌, ◌++◌, Option, Some, None}
use Rattle.std.specs.List.{find}
use Rattle.vi_history.specs.declared.call.Caller.{Caller}
use Rattle.vi_lines.specs.declared.line.Line.{Line}
use Rattle.vi_lines.specs.declared.index.Row.{Row}
use Rattle.vi_lines.specs.Calls.{same_caller}

-- the places of a row, if there is one
abbrev pub places_in : Option Row → List ℕ
places_in None = []
places_in (Some r) = r.places.items

-- the places of a caller's row, if it has one
abbrev pub row_places : Caller → List Row → List ℕ
row_places caller rows = places_in (find (λ r. same_caller r.caller caller) rows)

-- what a place of a caller's line adds to the places of another
abbrev pub added : Caller → ℕ → Caller → List ℕ
added caller place other = if same_caller caller other then place ∷ [] else []

-- the places of a caller's lines, the first line standing at this place
abbrev pub places_from : ℕ → Caller → List Line → List ℕ
places_from place caller [] = []
places_from place caller (l ∷ ls) = added l.caller place caller ++ places_from (place + 1) caller ls

-- the rows have the places of each caller's lines
abbrev pub AreRows : List Line → List Row → Type 0
AreRows lines rows = (caller : Caller) → row_places caller rows ≡ places_from 0 caller lines
