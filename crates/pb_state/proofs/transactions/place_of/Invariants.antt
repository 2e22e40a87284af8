use Rattle.std.proofs.Common.{ℕ, ◌<◌, ◌≤◌, ◌-◌, length, get_or}
use Rattle.pb_state.proofs.transactions.place_of.Given as goal

abbrev pub invariant-loop-low : goal.invariant-loop-low
invariant-loop-low l = record {
  ordered : l.low ≤ l.high;
  within : l.high ≤ length l.list;
  below : (i : ℕ) (d : _) → i < l.low → (get_or l.list i d).0 < l.start;
  above : (i : ℕ) (d : _) → l.high ≤ i → i < length l.list → l.start < (get_or l.list i d).0;
}

abbrev pub decreases-loop-low : goal.decreases-loop-low
decreases-loop-low l = l.high - l.low
