use Rattle.std.proofs.Common.{ap, map, [], ◌∙◌}
use Rattle.vi_bytes.specs.declared.region.EndpointSetup.{EndpointSetup}
use Rattle.vi_lines.specs.Value.{ScriptValue}
use Rattle.vi_control.proofs.Setups.{jobs_of}
use Rattle.vi_control.proofs.Planned.{rows_built}
use Rattle.vi_control.proofs.parts.back_ends_of.Goals as goal

pub transfers_by-requires : goal.transfers_by-requires
transfers_by-requires c = let valid = rw (← c.script.view_is) at c.requires in rw c.as_slice-2.ensures (jobs_of _ valid)

pub returns-clause-transfers : goal.returns-clause-transfers
returns-clause-transfers c =
    let s : ScriptValue = record { setup = c.script.inside.setup; turns = c.script.inside.turns; lines = c.script.inside.lines } in
    let ids = c.deref.ensures.value ∙ (c.in_ok-ids.ensures ∙ ap (λ es. map (λ (e : EndpointSetup). e.id) es) c.as_slice.ensures) in
    rw (← c.script.view_is) (rows_built s _ _ _ c.in_ok-transfers.ensures c.as_slice-2.ensures ids)

pub returns-clause-removals : goal.returns-clause-removals
returns-clause-removals c =
    let ids = c.deref-2.ensures.value ∙ (c.in_ok-ids.ensures ∙ ap (λ es. map (λ (e : EndpointSetup). e.id) es) c.as_slice.ensures) in
    rw (← c.script.view_is) (c.new.ensures.none ∙ ap (λ xs. record { ids = xs; opened = [] }) ids)
