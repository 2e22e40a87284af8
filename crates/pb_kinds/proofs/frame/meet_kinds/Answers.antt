use Rattle.std.proofs.Common.{arith}
use Rattle.pb_kinds.specs.Frames.{meet}
use Rattle.pb_kinds.specs.declared.frame.Kind.{Kind}
use Rattle.pb_kinds.proofs.Pointwise.{both_step}
use Rattle.pb_kinds.proofs.frame.meet_kinds.Goals as goal

pub loop-i-preserved : goal.loop-i-preserved
loop-i-preserved c = both_step meet c.args.a.now c.args.b.now _ c.loop-i.i Kind.Unset _ c.loop-i.invariant c.meet.ensures (omega arith) (omega arith)
