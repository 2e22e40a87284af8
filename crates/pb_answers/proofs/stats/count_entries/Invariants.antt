use Rattle.std.proofs.Common.{◌≡◌, ◌+◌, length}
use Rattle.std.specs.FinMap as map
use Rattle.pb_answers.specs.Words.{entries_after}
use Rattle.pb_answers.proofs.stats.count_entries.Given as goal

-- the units and the entries that are left are all
abbrev pub invariant-loop-slot : goal.invariant-loop-slot
invariant-loop-slot g l = length l.walked.items + length (entries_after l.after (map.entries l.table.contents.entries)) ≡ map.len l.table.contents.entries

abbrev pub decreases-loop-slot : goal.decreases-loop-slot
decreases-loop-slot g l = length (entries_after l.after (map.entries l.table.contents.entries))
