use Rattle.std.proofs.Common.{◌≡◌, ℕ, ◌<◌, ◌≤◌, None}
use Rattle.pb_answers.specs.Seen.{written_at}
use Rattle.pb_answers.proofs.newest.newest_up_to.Given as goal

-- no later commit wrote the cell
abbrev pub invariant-loop-commit : goal.invariant-loop-commit
invariant-loop-commit g l = record {
  within : l.high.0 ≤ l.fn.last.0;
  none : (c : ℕ) → l.high.0 < c → c ≤ l.fn.last.0 → written_at l.table.contents.entries l.cell c ≡ None;
}

abbrev pub decreases-loop-commit : goal.decreases-loop-commit
decreases-loop-commit g l = l.high.0
