use Rattle.std.proofs.Common.{arith}
use Rattle.std.proofs.lemmas.Bool.{false≢true}
use Rattle.pb_base.proofs.SameBatches.{same_first_write, same_later_writes, same_from_place}
use Rattle.pb_base.proofs.writes.+is_same_from.Goals as goal

pub returns-then-is_same_write : goal.returns-then-is_same_write
returns-then-is_same_write k c = grind (arith, same_from_place, same_later_writes, c.args.a.now, c.args.b.now, c.args.from, c.at.result, c.at-2.result, c.at.ensures, c.at-2.ensures, c.if-is_same_write.true)

pub returns-else-is_same_write : goal.returns-else-is_same_write
returns-else-is_same_write k c = grind (arith, false≢true, same_first_write, c.if-is_same_write.false, c.args.a.now, c.args.b.now, c.args.from, c.at.result, c.at-2.result, c.at.ensures, c.at-2.ensures)
