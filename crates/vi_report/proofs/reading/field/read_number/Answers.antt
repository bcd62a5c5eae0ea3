use Rattle.std.proofs.Common.{sym}
use Rattle.vi_report.proofs.FieldReading.{digits-pass, number_at-below, number_at-beyond, number_at-other}
use Rattle.vi_report.proofs.reading.field.read_number.Goals as goal

pub returns-then-not-is_plain-clause-found : goal.returns-then-not-is_plain-clause-found
returns-then-not-is_plain-clause-found c =
    number_at-other c.args.limit c.args.bytes.now c.decimal_digits.result.0.now c.decimal_digits.ensures.digits (sym c.if-not-is_plain.ensures)

pub worth-number-requires : goal.worth-number-requires
worth-number-requires c = rw c.decimal_digits.ensures.digits (digits-pass c.args.bytes.now)

pub returns-then-number-limit-clause-found : goal.returns-then-number-limit-clause-found
returns-then-number-limit-clause-found c =
    number_at-below c.args.limit c.worth-number.result c.args.bytes.now c.decimal_digits.result.0.now c.decimal_digits.result.1.now c.decimal_digits.ensures.digits c.decimal_digits.ensures.rest
    c.ranges.limit.fits (sym c.if-not-is_plain.ensures) c.worth-number.ensures c.if-number-limit.true

pub returns-else-number-limit-clause-found : goal.returns-else-number-limit-clause-found
returns-else-number-limit-clause-found c =
    number_at-beyond c.args.limit c.worth-number.result c.args.bytes.now c.decimal_digits.result.0.now c.decimal_digits.ensures.digits (sym c.if-not-is_plain.ensures) c.worth-number.ensures c.if-number-limit.false
