use Rattle.pb_threads.specs.Gains.{Gains}
use Rattle.pb_passes.specs.Passes.{AreRuns}
use Rattle.pb_threads.proofs.passes.run_all.Given as goal

abbrev pub invariant-loop-place : goal.invariant-loop-place
invariant-loop-place g l = Gains (AreRuns l.fn.observers l.fn.cell l.place) l.fn.seat l.seat
