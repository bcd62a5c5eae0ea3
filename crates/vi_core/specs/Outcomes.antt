-- What a world has come to, as an outcome.
use Rattle.std.specs.Prelude.{ℕ, ◌+◌, ◌-◌, if◌then◌else◌, List, [], ◌∷◌, get_or, map}
use Rattle.vi_history.specs.Kinds.{is_fault}
use Rattle.vi_history.specs.Outcomes.{IsWellMade}
use Rattle.vi_history.specs.declared.entry.Entry.{Entry}
use Rattle.vi_history.specs.declared.outcome.Outcome.{Outcome}
use Rattle.vi_history.specs.declared.outcome.Shown.{Shown}
use Rattle.vi_lines.specs.Value.{ScriptValue}
use Rattle.vi_lines.specs.Legal.{HasRecords}
use Rattle.vi_model.specs.Worlds.{World}
use Rattle.vi_model.specs.Playable.{IsPlayable}
use Rattle.vi_model.specs.Sound.{IsSound}

-- the numbers of the entries that are faults, where the first entry has this number
abbrev pub fault_numbers : ℕ → List Entry → List ℕ
fault_numbers number [] = []
fault_numbers number (h ∷ hs) = if is_fault h.mark.kind then number ∷ fault_numbers (number + 1) hs else fault_numbers (number + 1) hs

-- a delivered record, by the number of its entry in place of that of its fault
abbrev pub named_by : List ℕ → Shown → Shown
named_by numbers x = record x { entry = get_or numbers (x.entry - 1) 0 }

-- what a world has come to: its history, the records that were delivered, and how many were dropped
abbrev pub outcome_of : World → Outcome
outcome_of w = record { entries = w.history; shown = map (named_by (fault_numbers 1 w.history)) w.control.events.shown; dropped = w.control.events.dropped }

-- the outcome of a sound world is made as it is declared, so it has a text
abbrev pub OutcomeIsMade : Type 0
OutcomeIsMade = (s : ScriptValue) (w : World) → IsPlayable s → IsSound s w → IsWellMade (outcome_of w)

-- and its fault records are those of its history
abbrev pub OutcomeHasRecords : Type 0
OutcomeHasRecords = (s : ScriptValue) (w : World) → IsPlayable s → IsSound s w → HasRecords s (outcome_of w)
