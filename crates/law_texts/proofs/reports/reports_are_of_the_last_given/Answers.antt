use Rattle.law_texts.proofs.LastReport.{last_reported}
use Rattle.law_texts.proofs.reports.reports_are_of_the_last_given.Goals as goal

pub returns : goal.returns
returns c = last_reported c.clock_is_last_given.ensures
