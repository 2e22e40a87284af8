use Rattle.pb_threads.specs.Gains.{Gains}
use Rattle.pb_threads.specs.Tries.{AreVain}
use Rattle.pb_threads.proofs.tries.try_all.Given as goal

abbrev pub invariant-loop-count : goal.invariant-loop-count
invariant-loop-count g l = Gains (AreVain l.fn.batch l.count) l.fn.seat l.seat
