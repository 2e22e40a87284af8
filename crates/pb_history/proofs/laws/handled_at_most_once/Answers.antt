use Rattle.pb_history.proofs.ChangesHandled.{tells_one_handler}
use Rattle.pb_history.proofs.laws.handled_at_most_once.Goals as goal

pub returns : goal.returns
returns c = tells_one_handler
