use Rattle.std.proofs.Common.{arith}
use Rattle.pb_store.proofs.Counting.{counted_here, counted_later}
use Rattle.pb_store.proofs.table.entry_in.Goals as goal

pub returns-then-rest-count : goal.returns-then-rest-count
returns-then-rest-count g c = grind (arith, counted_here, c.at.ensures.entry, g.T.Tablet.contents, c.args.parts.now, c.loop-part.part-index, c.loop-part.rest, c.part-item.result, c.part-item.is, c.len-count.ensures, c.loop-part.invariant)

pub loop-part-preserved : goal.loop-part-preserved
loop-part-preserved g c = grind (arith, counted_later, c.loop-part.invariant, g.T.Tablet.contents, c.args.parts.now, c.loop-part.part-index, c.loop-part.rest, c.part-item.result, c.part-item.is, c.len-count.ensures)
