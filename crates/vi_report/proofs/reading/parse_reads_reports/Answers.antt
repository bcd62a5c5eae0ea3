use Rattle.vi_report.proofs.ReportTaking.{reads_exactly}
use Rattle.vi_report.proofs.reading.parse_reads_reports.Goals as goal

pub returns : goal.returns
returns c = reads_exactly
