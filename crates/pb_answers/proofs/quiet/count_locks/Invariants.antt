use Rattle.std.proofs.Common.{◌≡◌, ◌+◌, length, count_by}
use Rattle.std.specs.FinMap as map
use Rattle.pb_answers.specs.Words.{entries_after, is_lock, lock_count}
use Rattle.pb_answers.proofs.quiet.count_locks.Given as goal

-- the units and the locks of the entries that are left are all
abbrev pub invariant-loop-slot : goal.invariant-loop-slot
invariant-loop-slot g l = length l.locks.items + count_by (λ p. is_lock p.0.sort) (entries_after l.after (map.entries l.table.contents.entries)) ≡ lock_count l.table.contents.entries

abbrev pub decreases-loop-slot : goal.decreases-loop-slot
decreases-loop-slot g l = length (entries_after l.after (map.entries l.table.contents.entries))
