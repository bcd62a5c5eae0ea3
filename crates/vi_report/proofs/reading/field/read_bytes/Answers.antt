use Rattle.std.proofs.Common.{inl, inr}
use Rattle.std.proofs.lemmas.Result.{err_from_is_err_and}
use Rattle.vi_report.proofs.FieldReading.{bytes_at-read, refused}
use Rattle.vi_report.proofs.reading.field.read_bytes.Goals as goal

pub returns-in_err-read : goal.returns-in_err-read
returns-in_err-read c =
    let p = err_from_is_err_and c.from_residual.result c.from_residual.ensures.1 in
    elim (refused c.in_err-read.field-0.0 c.args.bytes.now c.lower_digits.result.0.now c.lower_digits.ensures.digits c.in_err-read.ensures.err) [
      | inl memory ↦ rw (p.1, p.2, memory) tt
      | inr unfit ↦ rw (p.1, p.2, unfit.0) unfit.1
    ]

pub returns : goal.returns
returns c =
    rw c.from_vec.ensures (bytes_at-read c.args.bytes.now c.lower_digits.result.0.now c.in_ok-read.read.items c.lower_digits.result.1.now c.lower_digits.ensures.digits c.lower_digits.ensures.rest c.in_ok-read.ensures.ok)
