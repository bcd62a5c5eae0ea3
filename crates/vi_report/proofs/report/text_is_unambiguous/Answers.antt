use Rattle.vi_report.proofs.ReportLemmas.{text-same, read_report-text}
use Rattle.vi_report.proofs.report.text_is_unambiguous.Goals as goal

pub returns-clause-unambiguous : goal.returns-clause-unambiguous
returns-clause-unambiguous c = text-same

pub returns-clause-read_again : goal.returns-clause-read_again
returns-clause-read_again c = read_report-text
