use Rattle.pb_history.proofs.LastGiven.{last_given}
use Rattle.pb_history.proofs.laws.clock_is_last_given.Goals as goal

pub returns : goal.returns
returns c = last_given
