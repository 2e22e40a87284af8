use Rattle.std.proofs.Common.{arith}
use Rattle.std.proofs.lemmas.Grind.{common_steps}
use Rattle.pb_verify.proofs.arriving.send.Goals as goal

pub returns-after-take-clause-each : goal.returns-after-take-clause-each
returns-after-take-clause-each c = grind (arith, common_steps)
