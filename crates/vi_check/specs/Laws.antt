-- What the verdict says of a report.
use Rattle.std.specs.Prelude.{◌≡◌, ◌↔◌}
use Rattle.vi_history.specs.Outcomes.{IsWellMade}
use Rattle.vi_history.specs.declared.outcome.Outcome.{Outcome}
use Rattle.vi_lines.specs.Value.{ScriptValue}
use Rattle.vi_lines.specs.Valid.{IsValid}
use Rattle.vi_lines.specs.Ordered.{IsOrdered}
use Rattle.vi_lines.specs.Legal.{IsLegalHistory, HasRecords}
use Rattle.vi_check.specs.Verdicts.{verdict}
use Rattle.vi_check.specs.declared.verdict.Verdict.TheVariants.{Legal}

-- The verdict on a well made report of a valid script is Legal exactly where its entries are in order, each answer is
-- that of the one-thread device, and its fault records are those of its entries.
abbrev pub LegalExactly : Type 0
LegalExactly =
    (s : ScriptValue) (o : Outcome) → IsValid s → IsWellMade o
    → (verdict s o ≡ Legal) ↔ (IsOrdered s o.entries × IsLegalHistory s o.entries × HasRecords s o)
