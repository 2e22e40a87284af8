use Rattle.std.proofs.Common.{length}
use Rattle.std.specs.FinMap as map
use Rattle.pb_answers.specs.Words.{entries_after}
use Rattle.pb_answers.specs.Records.{HasNewestUpTo}
use Rattle.pb_answers.proofs.list.newest_cells.Given as goal

-- those of the entries that were met are noted
abbrev pub invariant-loop-slot : goal.invariant-loop-slot
invariant-loop-slot g l = HasNewestUpTo l.table.contents.entries l.last.0 (entries_after l.after (map.entries l.table.contents.entries)) l.newest

abbrev pub decreases-loop-slot : goal.decreases-loop-slot
decreases-loop-slot g l = length (entries_after l.after (map.entries l.table.contents.entries))
