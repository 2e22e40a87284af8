use Rattle.pb_snapshots.proofs.Lists.{one_snapshot}
use Rattle.pb_snapshots.proofs.record_laws.records_are_of_one_snapshot.Goals as goal

pub returns : goal.returns
returns c s u fits_s fits_u same = one_snapshot s u fits_s fits_u same
