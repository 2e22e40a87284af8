use Rattle.std.proofs.Common.{arith, ◌&&◌, false}
use Rattle.pb_kinds.proofs.Pointwise.{both_step}
use Rattle.pb_kinds.proofs.frame.meet_bytes.Goals as goal

pub loop-i-preserved : goal.loop-i-preserved
loop-i-preserved c = both_step (λ a b. a && b) c.args.a.now c.args.b.now _ c.loop-i.i false _ c.loop-i.invariant (grind arith) (omega arith) (omega arith)
