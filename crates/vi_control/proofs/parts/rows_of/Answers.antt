use Rattle.std.proofs.Common.{ap, replicate, None, ◌∙◌}
use Rattle.vi_grants.specs.Rows.{empty_row}
use Rattle.vi_lanes.specs.Value.{LanesValue}
use Rattle.vi_lines.specs.Value.{ScriptValue}
use Rattle.vi_lines.proofs.TransferLemmas.{HasTransfers-from_valid}
use Rattle.vi_model.specs.Control.{no_lanes}
use Rattle.vi_control.proofs.Planned.{grants_built, parts_made, places_are}
use Rattle.vi_control.proofs.parts.rows_of.Goals as goal

pub count_parts-requires-clause-transfers : goal.count_parts-requires-clause-transfers
count_parts-requires-clause-transfers c = let valid = rw (← c.script.view_is) at c.requires in rw c.as_slice.ensures (HasTransfers-from_valid _ valid)

pub returns-clause-posted : goal.returns-clause-posted
returns-clause-posted c =
    let s : ScriptValue = record { setup = c.script.inside.setup; turns = c.script.inside.turns; lines = c.script.inside.lines } in
    rw (← c.script.view_is) (c.in_ok-posted.ensures ∙ ap (λ n. replicate n 0) (places_are s _ c.len-places.ensures))

pub returns-clause-grants : goal.returns-clause-grants
returns-clause-grants c =
    let s : ScriptValue = record { setup = c.script.inside.setup; turns = c.script.inside.turns; lines = c.script.inside.lines } in
    rw (← c.script.view_is) (grants_built s _ _ _ c.in_ok-grants.ensures.empty (places_are s _ c.len-places.ensures) (parts_made s _ _ c.as_slice.ensures c.count_parts.ensures))

pub returns-clause-lanes : goal.returns-clause-lanes
returns-clause-lanes c =
    let s : ScriptValue = record { setup = c.script.inside.setup; turns = c.script.inside.turns; lines = c.script.inside.lines } in
    rw (← c.script.view_is)
    (c.in_ok-lanes.ensures ∙ ap (λ n. let v : LanesValue = record { mail = replicate n no_lanes; parked = replicate n None } in v) (places_are s _ c.len-places.ensures))
