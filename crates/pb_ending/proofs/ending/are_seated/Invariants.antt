use Rattle.std.proofs.Common.{◌<◌, ℕ, slice_index_or}
use Rattle.pb_core.specs.Calls.{SeatOf}
use Rattle.pb_ending.proofs.ending.are_seated.Given as goal

abbrev pub invariant-loop-seat : goal.invariant-loop-seat
invariant-loop-seat l = (k : ℕ) (d : SeatOf) → k < l.seat-index → (slice_index_or l.seats k d).number < l.count
