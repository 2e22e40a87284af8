use Rattle.pb_keep.proofs.Records.{one_list}
use Rattle.pb_keep.proofs.laws.files_have_one_list.Goals as goal

pub returns : goal.returns
returns c = one_list c.files_have_one_reading.ensures c.records_are_of_one_snapshot.ensures
