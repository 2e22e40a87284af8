use Rattle.std.proofs.Common.{arith}
use Rattle.pb_kinds.proofs.FlagsFilled.{fill_step}
use Rattle.pb_kinds.proofs.ranges.fill.Goals as goal

pub loop-b-preserved : goal.loop-b-preserved
loop-b-preserved c = fill_step c.args.bytes.now c.loop-b.bytes c.loop-b.b-index c.loop-b.invariant (omega arith)
