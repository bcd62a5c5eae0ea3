use Rattle.std.proofs.Common.{ℕ, ◌<◌, ◌^◌, List, length, ap, ap₂, subst, sym, ◌∙◌, map}
use Rattle.vi_history.specs.Outcomes.{IsWellMade}
use Rattle.vi_history.specs.declared.entry.Entry.{Entry}
use Rattle.vi_history.specs.declared.outcome.Outcome.{Outcome}
use Rattle.vi_history.specs.declared.outcome.Shown.{Shown}
use Rattle.vi_core.specs.Inner.{parts_of}
use Rattle.vi_core.specs.Parts.{world_of}
use Rattle.vi_core.specs.Outcomes.{fault_numbers, named_by}
use Rattle.vi_core.proofs.OutcomeLaws.{outcome_made}
use Rattle.vi_core.proofs.Ending.{ok_also}
use Rattle.vi_core.proofs.world.World.came_to.Goals as goal

-- the outcome with these entries, records and this number of dropped ones
abbrev made_of : List Entry → List Shown → ℕ → Outcome
made_of entries shown dropped = record { entries = entries; shown = map (named_by (fault_numbers 1 entries)) shown; dropped = dropped }

pub outcome_of-requires : goal.outcome_of-requires
outcome_of-requires c =
    subst (λ (es : List Entry). length es < 2 ^ 32) (sym c.in_ok-entries.ensures)
    (outcome_made c.self.inside.script (world_of (parts_of c.self.inside)) c.self.invariant.playable c.self.invariant.sound).few

pub returns-clause-outcome : goal.returns-clause-outcome
returns-clause-outcome c =
    rw (← c.self.view_is)
    (ok_also c.outcome_of.result (λ o is.
    is ∙ ap (λ (es : List Entry). made_of es c.shown.result.now c.dropped.result) c.in_ok-entries.ensures ∙ ap₂ (made_of c.self.inside.history.entries) c.shown.ensures c.dropped.ensures) c.outcome_of.ensures)

pub returns-clause-made : goal.returns-clause-made
returns-clause-made c =
    ok_also c.outcome_of.result (λ o is.
    subst IsWellMade
    (sym (is ∙ ap (λ (es : List Entry). made_of es c.shown.result.now c.dropped.result) c.in_ok-entries.ensures ∙ ap₂ (made_of c.self.inside.history.entries) c.shown.ensures c.dropped.ensures))
    (outcome_made c.self.inside.script (world_of (parts_of c.self.inside)) c.self.invariant.playable c.self.invariant.sound)) c.outcome_of.ensures
