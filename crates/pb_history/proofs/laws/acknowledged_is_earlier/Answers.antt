use Rattle.pb_history.proofs.AcknowledgedTold.{tells_acknowledged}
use Rattle.pb_history.proofs.laws.acknowledged_is_earlier.Goals as goal

pub returns : goal.returns
returns c = tells_acknowledged
