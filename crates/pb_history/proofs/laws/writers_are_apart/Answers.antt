use Rattle.pb_history.proofs.SnapshotsTold.{tells_writers}
use Rattle.pb_history.proofs.laws.writers_are_apart.Goals as goal

pub returns : goal.returns
returns c = tells_writers
