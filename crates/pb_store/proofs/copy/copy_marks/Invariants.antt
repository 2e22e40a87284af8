use Rattle.std.proofs.Common.{◌≡◌, ◌-◌}
use Rattle.std.specs.FinMap as map
use Rattle.pb_store.proofs.Copied.{marks_up_to}
use Rattle.pb_store.proofs.copy.copy_marks.Given as goal

abbrev pub invariant-loop-cell : goal.invariant-loop-cell
invariant-loop-cell g l = g.T.Tablet.contents l.to ≡ record { entries = (g.T.Tablet.contents l.from).entries; marks = marks_up_to l.after (g.T.Tablet.contents l.from).marks }

abbrev pub decreases-loop-cell : goal.decreases-loop-cell
decreases-loop-cell g l = map.len (g.T.Tablet.contents l.from).marks - map.len (g.T.Tablet.contents l.to).marks
