use Rattle.std.proofs.Common.{length}
use Rattle.std.specs.FinMap as map
use Rattle.pb_snapshots.specs.Words.{entries_after}
use Rattle.pb_snapshots.specs.VersionWalks.{HasTaken}
use Rattle.pb_snapshots.proofs.taking.taken_versions.Given as goal

-- the versions whose records were met are noted
abbrev pub invariant-loop-slot : goal.invariant-loop-slot
invariant-loop-slot g l = HasTaken l.state (entries_after l.after (map.entries l.state.entries)) l.versions

abbrev pub decreases-loop-slot : goal.decreases-loop-slot
decreases-loop-slot g l = length (entries_after l.after (map.entries l.state.entries))
