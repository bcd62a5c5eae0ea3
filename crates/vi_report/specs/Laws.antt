-- What a report says of its outcome: everything.
use Rattle.std.specs.Prelude.{◌≡◌, ◌↔◌, ℕ, List, Ok}
use Rattle.vi_history.specs.Outcomes.{IsWellMade}
use Rattle.vi_history.specs.declared.outcome.Outcome.{Outcome}
use Rattle.vi_report.specs.Texts.{text}
use Rattle.vi_report.specs.Types.{IsTyped}
use Rattle.vi_report.specs.Reading.{read_report}

-- the text determines the outcome: no two outcomes have one report
abbrev pub IsUnambiguous : Type 0
IsUnambiguous = (a b : Outcome) → IsWellMade a → IsTyped a → IsWellMade b → IsTyped b → text a ≡ text b → a ≡ b

-- reading a report gives the outcome that it was made from
abbrev pub IsReadAgain : Type 0
IsReadAgain = (o : Outcome) → IsWellMade o → IsTyped o → read_report (text o) ≡ Ok o

-- reading bytes gives an outcome exactly where it is well made and within its types, and they are its report
abbrev pub IsReadExactly : Type 0
IsReadExactly = (bytes : List ℕ) (o : Outcome) → (read_report bytes ≡ Ok o) ↔ (IsWellMade o × IsTyped o × (text o ≡ bytes))
