use Rattle.std.specs.FinMap as map
use Rattle.pb_state.specs.Words.{ComesAfter}
use Rattle.pb_state.proofs.Walking.{left_after}
use Rattle.pb_state.proofs.sweep.is_marked.Given as goal

abbrev pub invariant-loop-next : goal.invariant-loop-next
invariant-loop-next g l = ComesAfter l.last l.cell

abbrev pub decreases-loop-next : goal.decreases-loop-next
decreases-loop-next g l = left_after l.last (map.entries l.table.contents.marks)
