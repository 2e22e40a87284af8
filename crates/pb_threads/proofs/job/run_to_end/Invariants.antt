use Rattle.std.proofs.Common.{◌≢◌, ℕ, List}
use Rattle.pb_threads.specs.Words.{Cell, ObserverOf, SeatOf, Need, need_of}
use Rattle.pb_threads.specs.Runs.{HasRunTo}
use Rattle.pb_threads.proofs.job.run_to_end.Given as goal

abbrev pub invariant-loop-turn : goal.invariant-loop-turn
invariant-loop-turn g l = record {
  along : (observers : List ObserverOf) (n : ℕ) (x : Cell) (a : SeatOf) → HasRunTo observers n x a l.fn.seat l.fn.job → HasRunTo observers n x a l.seat l.job;
  calls : need_of l.job ≢ Need.Local;
}
