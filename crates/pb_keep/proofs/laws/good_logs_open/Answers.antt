use Rattle.pb_keep.proofs.GoodLogs.{good_logs}
use Rattle.pb_keep.proofs.laws.good_logs_open.Goals as goal

pub returns : goal.returns
returns c = good_logs c.files_have_one_reading.ensures
