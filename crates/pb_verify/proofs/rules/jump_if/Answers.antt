use Rattle.std.proofs.Common.{arith}
use Rattle.std.proofs.lemmas.Int.{to_z-of_z}
use Rattle.pb_verify.proofs.LowestCode.{or_five}
use Rattle.pb_verify.proofs.rules.jump_if.Goals as goal

pub returns : goal.returns
returns c = grind (arith, to_z-of_z, or_five, c.args.frame.now, c.args.program.now.insns, c.args.slot, c.args.offset, c.jumps.ensures, c.on_pointer.ensures, c.when.ensures, c.args.dst, c.args.src, c.reads.ensures, c.reads_operand.ensures, c.falls.ensures, c.or.ensures, c.or-2.ensures, c.or-3.ensures, c.or-4.ensures)
