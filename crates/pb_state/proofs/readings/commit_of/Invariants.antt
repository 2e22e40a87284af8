use Rattle.std.proofs.Common.{◌≢◌, ℕ, ◌<◌, ◌^◌, Some}
use Rattle.pb_state.specs.Words.{write_at}
use Rattle.pb_state.proofs.readings.commit_of.Given as goal

-- no later write record names the start
abbrev pub invariant-loop-commit : goal.invariant-loop-commit
invariant-loop-commit g l = (c : ℕ) → l.high.0 < c → c < 2 ^ 64 → write_at l.table.contents.entries l.cell c ≢ Some l.start.0

abbrev pub decreases-loop-commit : goal.decreases-loop-commit
decreases-loop-commit g l = l.high.0
