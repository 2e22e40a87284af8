use Rattle.pb_accepted.proofs.CallsCounted.{needs_fall}
use Rattle.pb_accepted.proofs.needs.needs_fall.Goals as goal

pub returns : goal.returns
returns c = needs_fall
