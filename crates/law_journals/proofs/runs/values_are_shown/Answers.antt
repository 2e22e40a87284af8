use Rattle.law_journals.proofs.ShownValues.{value_is_shown}
use Rattle.law_journals.proofs.runs.values_are_shown.Goals as goal

pub returns : goal.returns
returns c = value_is_shown
