use Rattle.pb_helpers.proofs.LowestCode.{lowest_append}
use Rattle.std.proofs.lemmas.Grind.{common_steps}
use Rattle.std.proofs.Common.{arith}
use Rattle.std.proofs.lemmas.Int.{to_z-of_z}
use Rattle.pb_verify.proofs.LowestCode.{or_two}
use Rattle.pb_verify.proofs.rules.lowest_broken.Goals as goal

pub returns-in-Load : goal.returns-in-Load
returns-in-Load c = grind (arith, to_z-of_z, or_two, c.in-Load.offset, c.load.ensures, c.in-Load.is, c.args.version, c.args.frame.now, c.in-Load.size, c.in-Load.dst, c.in-Load.src, c.args.program.now.insns, c.args.slot, c.falls-falls.ensures, c.or-in-Load.ensures)

pub returns-in-StoreImm : goal.returns-in-StoreImm
returns-in-StoreImm c = grind (arith, to_z-of_z, or_two, c.in-StoreImm.offset, c.store_imm.ensures, c.in-StoreImm.is, c.args.frame.now, c.in-StoreImm.size, c.in-StoreImm.dst, c.args.program.now.insns, c.args.slot, c.falls-falls.ensures, c.or-in-StoreImm.ensures)

pub returns-in-Store : goal.returns-in-Store
returns-in-Store c = grind (arith, to_z-of_z, or_two, c.in-Store.offset, c.store.ensures, c.in-Store.is, c.args.frame.now, c.in-Store.size, c.in-Store.dst, c.in-Store.src, c.args.program.now.insns, c.args.slot, c.falls-falls.ensures, c.or-in-Store.ensures)

pub returns-in-Call : goal.returns-in-Call
returns-in-Call c = grind (arith, to_z-of_z, or_two, c.in-Call.imm, c.argument_code.ensures, c.in-Call.is, c.args.frame.now, c.args.helpers, c.args.program.now.insns, c.args.slot, c.falls-falls.ensures, c.or-in-Call.ensures)

pub returns-in-LoadImm : goal.returns-in-LoadImm
returns-in-LoadImm c = grind (arith, common_steps)

pub returns-in-Alu : goal.returns-in-Alu
returns-in-Alu c = grind (arith, lowest_append)

pub returns-in-MovSx : goal.returns-in-MovSx
returns-in-MovSx c = grind (arith, lowest_append)

pub returns-in-Neg : goal.returns-in-Neg
returns-in-Neg c = grind (arith, lowest_append)
