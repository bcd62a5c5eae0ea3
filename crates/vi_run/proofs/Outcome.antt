-- What a run has come to.
use Rattle.std.proofs.Common.{◌≡◌, ◌<◌, ◌^◌, ℕ, List, length, map, sym, ap, ap₂, ◌∙◌, subst}
use Rattle.vi_log.specs.Logs.{IsMerged, AreTicketed}
use Rattle.vi_history.specs.Outcomes.{IsWellMade}
use Rattle.vi_history.specs.declared.entry.Entry.{Entry}
use Rattle.vi_history.specs.declared.outcome.Outcome.{Outcome}
use Rattle.vi_history.specs.declared.outcome.Shown.{Shown}
use Rattle.vi_log.proofs.LogsMerging.{merged-once}
use Rattle.vi_model.specs.Control.{Control}
use Rattle.vi_core.specs.Outcomes.{fault_numbers, named_by}
use Rattle.vi_core.proofs.OutcomeLaws.{outcome_made}
use Rattle.vi_run.specs.Runs.{FinishedValue, IsRun, CameTo}

-- the outcome with these entries, records and this number of dropped ones
abbrev pub made_of : List Entry → List Shown → ℕ → Outcome
made_of entries shown dropped = record { entries = entries; shown = map (named_by (fault_numbers 1 entries)) shown; dropped = dropped }

-- the tickets of the logs are 0, 1, 2 and so on
pub ticketed : (f : FinishedValue) → IsRun f → (n : ℕ) × AreTicketed n f.logs
ticketed f r = (length r.world.history, r.run.merged.tickets)

-- the merged entries are the world's history
entries_are : (f : FinishedValue) (entries : List Entry) (r : IsRun f) → IsMerged f.logs entries → entries ≡ r.world.history
entries_are f entries r merged = merged-once f.logs entries r.world.history merged r.run.merged

-- so they are few
pub few_entries : (f : FinishedValue) (entries : List Entry) → IsRun f → IsMerged f.logs entries → length entries < 2 ^ 32
few_entries f entries r merged = subst (λ (es : List Entry). length es < 2 ^ 32) (sym (entries_are f entries r merged)) (outcome_made f.last.script r.world r.run.playable r.run.sound).few

-- and the outcome is the world's
pub came_to : (f : FinishedValue) (entries : List Entry) (shown : List Shown) (dropped : ℕ) (o : Outcome) → IsRun f → IsMerged f.logs entries
    → shown ≡ f.control.state.events.shown → dropped ≡ f.control.state.events.dropped → o ≡ made_of entries shown dropped → CameTo f o
came_to f entries shown dropped o r merged shown_is dropped_is is = record {
  world = r.world;
  run = r.run;
  outcome = is ∙ (ap (λ (es : List Entry). made_of es shown dropped) (entries_are f entries r merged)
      ∙ ap₂ (made_of r.world.history) (shown_is ∙ ap (λ (c : Control). c.events.shown) r.run.control) (dropped_is ∙ ap (λ (c : Control). c.events.dropped) r.run.control));
}

-- so it is made as it is declared
pub came_made : (f : FinishedValue) (o : Outcome) → CameTo f o → IsWellMade o
came_made f o came = subst IsWellMade (sym came.outcome) (outcome_made f.last.script came.world came.run.playable came.run.sound)
