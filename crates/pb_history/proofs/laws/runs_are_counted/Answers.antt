use Rattle.pb_history.proofs.RunsCounted.{tells_counts}
use Rattle.pb_history.proofs.laws.runs_are_counted.Goals as goal

pub returns : goal.returns
returns c = tells_counts
