use Rattle.pb_history.proofs.CommitsAreOrdered.{tells_commit_order}
use Rattle.pb_history.proofs.laws.commits_are_ordered.Goals as goal

pub returns : goal.returns
returns c = tells_commit_order
