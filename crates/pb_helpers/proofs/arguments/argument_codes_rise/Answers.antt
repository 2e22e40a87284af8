use Rattle.pb_helpers.proofs.ArgumentCodesRise.{codes_rise}
use Rattle.pb_helpers.proofs.arguments.argument_codes_rise.Goals as goal

pub returns : goal.returns
returns c = codes_rise
