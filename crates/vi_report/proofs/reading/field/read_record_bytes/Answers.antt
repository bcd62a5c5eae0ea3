use Rattle.std.proofs.Common.{sym, ap, ◌∙◌}
use Rattle.std.specs.Result.{result_ok}
use Rattle.vi_report.proofs.FieldReading.{decoded-from_ok, sized_at-read, sized_at-refused}
use Rattle.vi_report.proofs.reading.field.read_record_bytes.Goals as goal

pub returns-in_err-record : goal.returns-in_err-record
returns-in_err-record c =
    let none = sym (c.ok.ensures.value ∙ ap result_ok c.from_hex.ensures) ∙ c.in_err-record.was in
    rw c.from_residual.ensures (sized_at-refused 24 c.args.bytes.now c.lower_digits.result.0.now c.lower_digits.ensures.digits none)

pub returns : goal.returns
returns c =
    let some = sym (c.ok.ensures.value ∙ ap result_ok c.from_hex.ensures) ∙ c.in_ok-record.was in
    sized_at-read 24 c.args.bytes.now c.lower_digits.result.0.now c.in_ok-record.record c.lower_digits.result.1.now c.lower_digits.ensures.digits c.lower_digits.ensures.rest (decoded-from_ok _ _ some)
