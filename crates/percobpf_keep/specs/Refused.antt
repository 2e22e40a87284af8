-- What keeps a table from being compacted, and from nothing else.
use Rattle.std.specs.Prelude.{Bool, true, false}
use Rattle.pb_keep.specs.declared.compact.SnapshotFault.{SnapshotFault}

-- a line waits, no timestamp is left, or its snapshot is too large
abbrev pub is_refused : SnapshotFault → Bool
is_refused SnapshotFault.LinesWait = true
is_refused SnapshotFault.NoTimestamp = true
is_refused SnapshotFault.TooLarge = true
is_refused _ = false
