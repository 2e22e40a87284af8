use Rattle.pb_log.proofs.OneReading.{one_reading}
use Rattle.pb_log.proofs.laws.files_have_one_reading.Goals as goal

pub returns : goal.returns
returns c file rs ss a b = (one_reading file rs ss a b).0
