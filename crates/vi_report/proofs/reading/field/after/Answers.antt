use Rattle.vi_report.proofs.FieldReading.{finds-stripped}
use Rattle.vi_report.proofs.reading.field.after.Goals as goal

pub returns : goal.returns
returns c = finds-stripped (λ rest. rest.now) c.strip_prefix.result c.args.text.now c.args.bytes.now c.strip_prefix.ensures.cases
