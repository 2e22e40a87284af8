use Rattle.pb_threads.specs.Words.{Writes, SeatOf}
use Rattle.std.proofs.Common.{false}
use Rattle.pb_threads.specs.Tries.{HasTriedTo}
use Rattle.pb_threads.proofs.tries.try_to_end.Given as goal

abbrev pub invariant-loop-turn : goal.invariant-loop-turn
invariant-loop-turn g l = (batch : Writes) (a : SeatOf) → HasTriedTo batch a l.fn.seat l.fn.job false → HasTriedTo batch a l.seat l.job l.committed
