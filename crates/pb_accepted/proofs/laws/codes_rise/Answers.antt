use Rattle.pb_accepted.proofs.CodesRise.{codes_rise}
use Rattle.pb_accepted.proofs.laws.codes_rise.Goals as goal

pub returns : goal.returns
returns c = codes_rise c.argument_codes_rise.ensures
