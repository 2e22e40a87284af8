use Rattle.std.proofs.Common.{◌≡◌, ◌+◌, length, count_by}
use Rattle.std.specs.FinMap as map
use Rattle.pb_state.specs.Words.{entries_after, is_lock}
use Rattle.pb_state.proofs.readings.count_locks.Given as goal

-- the locks counted and those after the last entry are all
abbrev pub invariant-loop-slot : goal.invariant-loop-slot
invariant-loop-slot g l =
    let entries = map.entries l.table.contents.entries in
    l.count + count_by (λ p. is_lock p.0.sort) (entries_after l.after entries) ≡ count_by (λ p. is_lock p.0.sort) entries

abbrev pub decreases-loop-slot : goal.decreases-loop-slot
decreases-loop-slot g l = length (entries_after l.after (map.entries l.table.contents.entries))
