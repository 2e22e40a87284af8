use Rattle.pb_history.proofs.QuietCounted.{tells_quiet}
use Rattle.pb_history.proofs.laws.quiet_is_counted.Goals as goal

pub returns : goal.returns
returns c = tells_quiet
