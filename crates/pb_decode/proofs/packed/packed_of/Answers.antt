use Rattle.std.proofs.Common.{arith}
use Rattle.std.proofs.lemmas.Grind.{common_steps}
use Rattle.pb_decode.proofs.packed.packed_of.Goals as goal

pub returns-in_err-put-clause-packed : goal.returns-in_err-put-clause-packed
returns-in_err-put-clause-packed c = grind arith

pub loop-insn-preserved : goal.loop-insn-preserved
loop-insn-preserved c = grind (arith, common_steps)

pub returns-clause-packed : goal.returns-clause-packed
returns-clause-packed c = grind (arith, common_steps)
