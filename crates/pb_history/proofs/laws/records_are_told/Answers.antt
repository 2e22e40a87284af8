use Rattle.pb_history.proofs.SnapshotsTold.{tells_records}
use Rattle.pb_history.proofs.laws.records_are_told.Goals as goal

pub returns : goal.returns
returns c = tells_records
