use Rattle.std.proofs.Common.{arith}
use Rattle.std.proofs.lemmas.Int.{to_z-of_z}
use Rattle.pb_verify.proofs.LowestCode.{or_four}
use Rattle.pb_verify.proofs.rules.store.Goals as goal

pub returns : goal.returns
returns c = grind (arith, to_z-of_z, or_four, c.args.frame.now, c.args.offset, c.kind.ensures, c.bytes_of.ensures.value, c.stores-access.ensures, c.is_pointer.ensures, c.kind-2.ensures, c.when.ensures, c.args.dst, c.args.src, c.args.size, c.reads.ensures, c.reads-2.ensures, c.or.ensures, c.or-2.ensures, c.or-3.ensures)
