use Rattle.std.proofs.Common.{arith}
use Rattle.std.proofs.lemmas.Int.{to_z-of_z}
use Rattle.pb_verify.proofs.LowestCode.{or_three}
use Rattle.pb_verify.proofs.rules.load.Goals as goal

pub returns : goal.returns
returns c = grind (arith, to_z-of_z, or_three, c.args.frame.now, c.args.offset, c.kind.ensures, c.bytes_of.ensures.value, c.loads-access.ensures, c.args.src, c.args.dst, c.args.version, c.args.size, c.reads.ensures, c.sets.ensures, c.or.ensures, c.or-2.ensures)
