use Rattle.std.proofs.Common.{arith}
use Rattle.pb_state.proofs.Taking.{all_goes_on, all_ends}
use Rattle.pb_state.proofs.cells.has_batch.Goals as goal

pub returns-then-not-contains : goal.returns-then-not-contains
returns-then-not-contains c = grind (arith, all_ends, c.args.cells.now, c.args.batch.now, c.loop-place.place, c.at-cell.result, c.at-cell.ensures, c.contains.ensures.value, c.if-not-contains.true, c.loop-place.invariant)

pub loop-place-preserved : goal.loop-place-preserved
loop-place-preserved c = grind (arith, all_goes_on, c.args.cells.now, c.args.batch.now, c.loop-place.place, c.at-cell.result, c.at-cell.ensures, c.contains.ensures.value, c.if-not-contains.false, c.loop-place.invariant)
