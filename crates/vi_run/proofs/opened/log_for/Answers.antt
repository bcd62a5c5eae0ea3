use Rattle.std.proofs.Common.{ap, ◌∙◌}
use Rattle.std.proofs.lemmas.Result.{IfOk-weaker}
use Rattle.vi_lines.specs.Value.{ScriptValue}
use Rattle.vi_lines.proofs.TransferLemmas.{HasTransfers-from_valid}
use Rattle.vi_run.specs.Roles.{HasRoomFor}
use Rattle.vi_run.proofs.Opening.{log_room}
use Rattle.vi_run.proofs.opened.log_for.Goals as goal

pub entry_room-requires-clause-transfers : goal.entry_room-requires-clause-transfers
entry_room-requires-clause-transfers c = let valid = rw (← c.script.view_is) at c.requires.playable.valid in rw c.as_slice-lines.ensures (HasTransfers-from_valid _ valid)

pub returns-in-Back-clause-room : goal.returns-in-Back-clause-room
returns-in-Back-clause-room c =
    IfOk-weaker c.with_room.result _ (λ log. HasRoomFor c.args.script.now c.args.role.now log) (λ log is.
    log_room c.args.script.now c.args.role.now c.as_slice-lines.result.now c.entry_room.result c.byte_room.result log
    (c.as_slice-lines.ensures ∙ ap (λ (s : ScriptValue). s.lines) c.script.view_is) c.entry_room.ensures c.byte_room.ensures is) c.with_room.ensures
