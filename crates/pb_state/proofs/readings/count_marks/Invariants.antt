use Rattle.std.proofs.Common.{◌≤◌, ◌-◌, length}
use Rattle.std.specs.FinMap as map
use Rattle.pb_state.proofs.Walks.{IsWalked}
use Rattle.pb_state.proofs.readings.count_marks.Given as goal

abbrev pub invariant-loop-cell : goal.invariant-loop-cell
invariant-loop-cell g l = record {
  walked : IsWalked l.last (map.entries l.table.contents.marks) l.count;
  within : l.count ≤ length (map.entries l.table.contents.marks);
}

abbrev pub decreases-loop-cell : goal.decreases-loop-cell
decreases-loop-cell g l = length (map.entries l.table.contents.marks) - l.count
