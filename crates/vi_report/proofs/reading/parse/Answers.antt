use Rattle.vi_report.proofs.ReportTaking.{is_report_of}
use Rattle.vi_report.proofs.reading.parse.Goals as goal

pub returns-clause-made : goal.returns-clause-made
returns-clause-made c = (is_report_of c.args.bytes.now c.outcome.result c.outcome.ensures).made

pub returns-clause-typed : goal.returns-clause-typed
returns-clause-typed c = (is_report_of c.args.bytes.now c.outcome.result c.outcome.ensures).typed

pub returns-clause-text : goal.returns-clause-text
returns-clause-text c = (is_report_of c.args.bytes.now c.outcome.result c.outcome.ensures).is
