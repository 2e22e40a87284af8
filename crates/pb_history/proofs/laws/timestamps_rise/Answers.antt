use Rattle.pb_history.proofs.TimestampsRise.{tells_timestamps}
use Rattle.pb_history.proofs.laws.timestamps_rise.Goals as goal

pub returns : goal.returns
returns c = tells_timestamps
