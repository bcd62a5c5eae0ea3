use Rattle.std.proofs.Common.{ap, refl, ◌∙◌}
use Rattle.vi_config.specs.Space.{config_bytes}
use Rattle.vi_history.specs.Start.{start_dev}
use Rattle.vi_lines.specs.Value.{ScriptValue}
use Rattle.vi_model.specs.Places.{place_count}
use Rattle.vi_model.specs.Rooms.{all_parts}
use Rattle.vi_control.specs.Inner.{config_of}
use Rattle.vi_control.proofs.Setups.{granule_size}
use Rattle.vi_control.proofs.Planned.{plan_made, state_made, rows_made, kept_made}
use Rattle.vi_control.proofs.control.Control.build.Goals as goal

pub configuration-requires : goal.configuration-requires
configuration-requires c = let valid = rw (← c.script.view_is) at c.requires in granule_size _ valid.setup_valid.granule_fits

pub invariant_of-result : goal.invariant_of-result
invariant_of-result c =
    let s = c.args.script.now in
    let backs = c.in_ok-transfers.ensures in
    let rows = c.in_ok-posted.ensures in
    let device = c.in_ok-calls.ensures in
    kept_made _ s (place_count s) (all_parts s) c.requires.setup_valid refl (ap (λ d. d.dev) device.device) backs.removals device.calls rows.grants rows.lanes rows.posted
    (rows_made _ _ _ _ backs.transfers) (c.configuration.ensures ∙ ap (λ (t : ScriptValue). config_bytes (config_of (start_dev t.setup))) c.script.view_is)

pub returns-clause-plan : goal.returns-clause-plan
returns-clause-plan c = rw (c.in_ok-transfers.ensures.removals, c.in_ok-calls.ensures.events) (plan_made _ _ _ refl c.in_ok-transfers.ensures.transfers)

pub returns-clause-state : goal.returns-clause-state
returns-clause-state c =
    rw (c.in_ok-calls.ensures.device, c.in_ok-calls.ensures.calls, c.in_ok-transfers.ensures.removals, c.in_ok-posted.ensures.grants, c.in_ok-posted.ensures.lanes, c.in_ok-posted.ensures.posted, c.in_ok-calls.ensures.events)
    (state_made _)
