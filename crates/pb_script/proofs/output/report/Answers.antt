use Rattle.std.proofs.Common.{arith}
use Rattle.pb_script.proofs.output.report.Goals as goal

pub returns : goal.returns
returns g c = grind arith
