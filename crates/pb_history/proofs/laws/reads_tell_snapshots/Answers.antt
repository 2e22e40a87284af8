use Rattle.pb_history.proofs.SnapshotsTold.{tells_snapshots}
use Rattle.pb_history.proofs.laws.reads_tell_snapshots.Goals as goal

pub returns : goal.returns
returns c = tells_snapshots
