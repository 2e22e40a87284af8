use Rattle.law_journals.proofs.AcknowledgedVersions.{finds_acknowledged}
use Rattle.law_journals.proofs.reads.acknowledged_versions_are_found.Goals as goal

pub returns : goal.returns
returns c = finds_acknowledged
