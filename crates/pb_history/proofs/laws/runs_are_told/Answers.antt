use Rattle.pb_history.proofs.RunsTold.{tells_runs}
use Rattle.pb_history.proofs.laws.runs_are_told.Goals as goal

pub returns : goal.returns
returns c = tells_runs
