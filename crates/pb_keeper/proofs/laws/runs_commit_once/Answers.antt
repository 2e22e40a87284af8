use Rattle.pb_keeper.proofs.Counting.{runs_commit}
use Rattle.pb_keeper.proofs.laws.runs_commit_once.Goals as goal

pub returns : goal.returns
returns c = runs_commit
