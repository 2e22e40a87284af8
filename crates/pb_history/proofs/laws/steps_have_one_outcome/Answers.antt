use Rattle.pb_history.proofs.OneOutcome.{one_outcome}
use Rattle.pb_history.proofs.laws.steps_have_one_outcome.Goals as goal

pub returns : goal.returns
returns c = one_outcome
