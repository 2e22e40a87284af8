use Rattle.pb_history.proofs.ReasonsRise.{step_reasons_rise}
use Rattle.pb_history.proofs.laws.reasons_rise.Goals as goal

pub returns : goal.returns
returns c = step_reasons_rise
