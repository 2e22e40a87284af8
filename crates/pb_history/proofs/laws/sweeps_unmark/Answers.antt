use Rattle.pb_history.proofs.Progress.{step_unmarks}
use Rattle.pb_history.proofs.laws.sweeps_unmark.Goals as goal

pub returns : goal.returns
returns c = step_unmarks
