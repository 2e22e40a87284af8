-- What follows from taking a snapshot of a kept table: a state that was opened with it, and has a mark on each cell that an observer
-- isn't up to date on, begins the table's next generation.
use Rattle.std.specs.Prelude.{ℕ, ◌≡◌, ◌<◌, List, ◌++◌}
use Rattle.pb_snapshots.specs.Words.{Writes, StateOf, last_timestamp, IsCarriedOver, IsMarkedBehind, IsFirstTable, KeepsFrom, KeptTable}
use Rattle.pb_snapshots.specs.Snapshot.{SnapshotOf}
use Rattle.pb_snapshots.specs.Taken.{IsSnapshotTaken}

-- With what is left of its transactions, it is a table as a generation begins with it; the changes of the generations before are those that
-- led to the table that it was taken of.
abbrev pub SnapshotsBegin : Type 0
SnapshotsBegin =
    (limit : ℕ) (past changes : List Writes) (first old new : KeptTable) (s : SnapshotOf) (over : StateOf) → IsFirstTable past first → KeepsFrom limit first changes old → old.state.clock < last_timestamp
    → IsSnapshotTaken old s → IsCarriedOver old.state.observers 1 s.clock s.cells over → IsMarkedBehind over new.state → new.stats ≡ s.stats → IsFirstTable (past ++ changes) new
