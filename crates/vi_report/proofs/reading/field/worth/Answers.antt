use Rattle.std.proofs.Common.{sym, ◌∙◌, arith}
use Rattle.vi_report.proofs.FieldReading.{capped_after-digit, capped_after-end}
use Rattle.vi_report.proofs.reading.field.worth.Goals as goal

pub loop-digit-preserved : goal.loop-digit-preserved
loop-digit-preserved c =
    let more = capped_after-digit c.loop-digit.worth c.saturating_add-worth.result c.loop-digit.digit-index c.args.digits.now c.loop-digit-test.true c.requires (omega arith) in
    record { spelled = sym more ∙ c.loop-digit.invariant.spelled; fits = omega arith }

pub returns : goal.returns
returns c = capped_after-end c.loop-digit.worth c.loop-digit.digit-index c.args.digits.now c.loop-digit-test.false c.loop-digit.invariant.fits c.loop-digit.invariant.spelled
