use Rattle.pb_threads.specs.Gains.{Gains}
use Rattle.pb_passes.specs.Passes.{ArePasses}
use Rattle.pb_threads.proofs.passes.drain.Given as goal

abbrev pub invariant-loop-count : goal.invariant-loop-count
invariant-loop-count g l = Gains (ArePasses l.fn.observers l._count) l.fn.seat l.seat
