use Rattle.std.proofs.Common.{◌≡◌, ◌-◌, length}
use Rattle.std.specs.FinMap as map
use Rattle.pb_store.proofs.Copied.{marks_up_to}
use Rattle.pb_answers.proofs.quiet.count_marks.Given as goal

-- there are as many units as marks up to the last one
abbrev pub invariant-loop-cell : goal.invariant-loop-cell
invariant-loop-cell g l = length l.marked.items ≡ map.len (marks_up_to l.last l.table.contents.marks)

abbrev pub decreases-loop-cell : goal.decreases-loop-cell
decreases-loop-cell g l = map.len l.table.contents.marks - length l.marked.items
