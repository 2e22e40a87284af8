use Rattle.std.proofs.Common.{arith}
use Rattle.pb_state.proofs.Rising.{below_here, above_here}
use Rattle.pb_state.proofs.transactions.place_of.Goals as goal

pub loop-low-preserved-then-here-start-2 : goal.loop-low-preserved-then-here-start-2
loop-low-preserved-then-here-start-2 c = record {
  ordered = omega arith;
  within = omega arith;
  below = below_here c.args.list.now _ c.args.start c.index-list-middle.result c.requires (omega arith) c.if-here-start-2.true;
  above = c.loop-low.invariant.above;
}

pub loop-low-preserved : goal.loop-low-preserved
loop-low-preserved c = grind (arith, above_here, c.loop-low.invariant.below, c.args.list.now, c.args.start, c.index-list-middle.result, c.requires)
