use Rattle.pb_state.specs.Behind.{AreOnTime}
use Rattle.pb_state.proofs.sweep.is_any_late.Given as goal

abbrev pub invariant-loop-place : goal.invariant-loop-place
invariant-loop-place g l = AreOnTime l.table.contents.entries l.row l.column l.commit.0 l.observers l.place
