use Rattle.std.proofs.Common.{ap, ◌∙◌}
use Rattle.vi_lines.specs.Value.{ScriptValue}
use Rattle.vi_lines.proofs.TransferLemmas.{HasTransfers-from_valid}
use Rattle.vi_core.proofs.OpenedWorld.{is_built}
use Rattle.vi_core.proofs.opening.parts_of.Goals as goal

pub entry_room-requires-clause-transfers : goal.entry_room-requires-clause-transfers
entry_room-requires-clause-transfers c = let valid = rw (← c.script.view_is) at c.requires.valid in rw c.as_slice-lines.ensures (HasTransfers-from_valid _ valid)

pub backs_of-requires-clause-transfers : goal.backs_of-requires-clause-transfers
backs_of-requires-clause-transfers c = HasTransfers-from_valid c.args.script.now c.requires.valid

pub returns : goal.returns
returns c =
    let lines = c.as_slice-lines.ensures ∙ ap (λ (s : ScriptValue). s.lines) c.script.view_is in
    is_built c.args.script.now c.in_ok-control.control c.in_ok-drivers.drivers.items c.in_ok-backs.backs.items c.in_ok-pages.pages.items c.in_ok-history.history c.as_slice-lines.result.now c.as_slice-lines.result.now
    c.entry_room.result c.byte_room.result c.script.inside.setup.memory c.in_ok-control.ensures.plan c.in_ok-control.ensures.state c.in_ok-drivers.ensures c.in_ok-backs.ensures
    (ap (λ (s : ScriptValue). s.setup.memory) c.script.view_is) c.in_ok-pages.ensures lines c.entry_room.ensures lines c.byte_room.ensures c.in_ok-history.ensures
