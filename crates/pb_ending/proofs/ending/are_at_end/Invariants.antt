use Rattle.std.proofs.Common.{◌≡◌, ℕ, ◌<◌, length, slice_index_or}
use Rattle.pb_core.specs.Calls.{SeatOf}
use Rattle.pb_ending.proofs.ending.are_at_end.Given as goal

abbrev pub invariant-loop-k : goal.invariant-loop-k
invariant-loop-k l = (i : ℕ) (d : SeatOf) → i < l.k → slice_index_or l.cursors i 0 ≡ length (slice_index_or l.seats i d).received
