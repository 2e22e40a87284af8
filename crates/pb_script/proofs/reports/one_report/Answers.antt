use Rattle.pb_script.proofs.OneReport.{one_text_reported}
use Rattle.pb_script.proofs.reports.one_report.Goals as goal

pub returns : goal.returns
returns c = one_text_reported
