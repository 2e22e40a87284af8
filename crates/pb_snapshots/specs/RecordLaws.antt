-- What holds of the records of all snapshots.
use Rattle.std.specs.Prelude.{◌≡◌, IsUtf8}
use Rattle.pb_snapshots.specs.Snapshot.{SnapshotOf, FitsSnapshot, snapshot_bytes}

-- a record is of one snapshot
abbrev pub RecordsAreOfOneSnapshot : Type 0
RecordsAreOfOneSnapshot = (s u : SnapshotOf) → FitsSnapshot s → FitsSnapshot u → snapshot_bytes s ≡ snapshot_bytes u → s ≡ u

-- no record of a snapshot is a text
abbrev pub SnapshotsAreNoTexts : Type 0
SnapshotsAreNoTexts = (s : SnapshotOf) → IsUtf8 (snapshot_bytes s) → ⊥
