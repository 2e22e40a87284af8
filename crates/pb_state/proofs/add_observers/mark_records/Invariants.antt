use Rattle.std.proofs.Common.{◌≡◌, true, length}
use Rattle.std.specs.FinMap as map
use Rattle.pb_state.specs.Words.{entries_after, is_observed}
use Rattle.pb_state.specs.MoreMarks.{AreMarkedBefore}
use Rattle.pb_state.proofs.add_observers.mark_records.Given as goal

-- the cells of the records that were met are marked
abbrev pub invariant-loop-slot : goal.invariant-loop-slot
invariant-loop-slot g l = record {
  same : l.table.contents.entries ≡ l.fn.table.contents.entries;
  marked : AreMarkedBefore (λ x. is_observed l.observers x ≡ true) l.fn.table.contents.entries (entries_after l.after (map.entries l.fn.table.contents.entries)) l.fn.table.contents.marks l.table.contents.marks;
}

abbrev pub decreases-loop-slot : goal.decreases-loop-slot
decreases-loop-slot g l = length (entries_after l.after (map.entries l.table.contents.entries))
