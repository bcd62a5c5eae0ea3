use Rattle.std.proofs.Common.{◌+◌, ap, ◌∙◌}
use Rattle.vi_script.specs.Texts.{said_from}
use Rattle.vi_script.proofs.FieldLemmas.{HasFields-script_of}
use Rattle.vi_script.proofs.ReadingLemmas.{script-refused, script-read}
use Rattle.vi_script.proofs.SoundLemmas.{script-valid}
use Rattle.vi_lines.proofs.TransferLemmas.{HasTransfers-from_valid}
use Rattle.vi_script.proofs.reading.parse.Goals as goal

pub returns-in-Err-clause-read : goal.returns-in-Err-clause-read
returns-in-Err-clause-read c =
    let read = c.loop-line.invariant.read ∙ ap (λ lines. said_from (c.loop-line.number + 1) c.loop-line.draft lines) c.in-Some.ensures in
    rw c.at.ensures (script-refused c.args.bytes.now (c.loop-line.number + 1) c.loop-line.draft c.in-Some.line.now c.take.new.self c.in-Err.refusal read c.in-Err.ensures.next)

pub returns-clause-read : goal.returns-clause-read
returns-clause-read c =
    let read = c.loop-line.invariant.read ∙ ap (λ lines. said_from (c.loop-line.number + 1) c.loop-line.draft lines) c.in_default.ensures.0 in
    script-read c.args.bytes.now (c.loop-line.number + 1) c.loop-line.draft c.in_ok-into_script.field-0 read c.in_ok-into_script.ensures

pub returns-clause-valid : goal.returns-clause-valid
returns-clause-valid c = script-valid c.args.bytes.now c.in_ok-into_script.field-0 (returns-clause-read c)

pub returns-clause-transfers : goal.returns-clause-transfers
returns-clause-transfers c = HasTransfers-from_valid c.in_ok-into_script.field-0 (returns-clause-valid c)

pub returns-clause-fields : goal.returns-clause-fields
returns-clause-fields c = rw c.in_ok-into_script.ensures (HasFields-script_of c.loop-line.draft c.loop-line.invariant.fields)
