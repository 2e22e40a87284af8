use Rattle.pb_history.proofs.ChangesHandled.{tells_handlers}
use Rattle.pb_history.proofs.laws.handled_when_quiet.Goals as goal

pub returns : goal.returns
returns c = tells_handlers
