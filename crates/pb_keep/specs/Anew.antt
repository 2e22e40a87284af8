-- A log that begins anew: with a snapshot of the table, in the place of all that led to it.
use Rattle.std.specs.Prelude.{◌≡◌, ◌≢◌, ℕ, ◌<◌, ◌≤◌, ◌^◌, false, List, [], length, map, Some}
use Rattle.std.specs.List.Sorted.{IsStrictlySortedBy}
use Rattle.pb_snapshots.specs.VersionWalks.{commit_cmp, commit_of_version}
use Rattle.pb_keep.specs.Words.{HasRecords, IsSnapshotTaken, KeptTable, SnapshotOf, WhyNotOpened, are_of_their_cells, last_timestamp, snapshot_bytes}
use Rattle.pb_keep.specs.declared.compact.SnapshotFault.{SnapshotFault}
use Rattle.pb_keep.specs.declared.waiting.Waits.{Waits}
use Rattle.pb_keep.specs.Kept.{origin_of, IsLogOf}

-- A log of this limit of entries begins with a snapshot of this table, of so many versions, and has no change. The table has a timestamp left; so one that is
-- opened with this log begins the next generation.
pub record BeginsAnew (limit : ℕ) (manifest : List ℕ) (table : KeptTable) (n : ℕ) (seen : List ℕ) (may_leave : List ℕ → Type 0) (end : ℕ) : Type 0 where
  pub snapshot : SnapshotOf
  pub taken : IsSnapshotTaken table snapshot
  pub log : IsLogOf (origin_of limit manifest (Some snapshot)) [] seen may_leave end
  pub room : table.state.clock < last_timestamp
  pub count : n ≡ length snapshot.cells

-- a snapshot of this table has so many versions, no two of them of one commit of a cell
pub record HasVersions (table : KeptTable) (n : ℕ) : Type 0 where
  pub snapshot : SnapshotOf
  pub taken : IsSnapshotTaken table snapshot
  pub rising : IsStrictlySortedBy commit_cmp (map commit_of_version snapshot.cells)
  pub count : n ≡ length snapshot.cells

-- a snapshot of the table with which something is amiss
abbrev pub HasAmiss : KeptTable → (SnapshotOf → Type 0) → Type 0
HasAmiss table P = (s : SnapshotOf) × IsSnapshotTaken table s × P s

-- why none is begun, where these lines wait, this is what stands in the first record, this is the file of the new log, and so many calls of its disk had failed before and have
-- failed now: a new log is never full, so that a fault of it is one with which a log isn't opened
abbrev pub WhyNotAnew : List Waits → KeptTable → List ℕ → ℕ → ℕ → List ℕ → SnapshotFault → Type 0
WhyNotAnew waiting table first before now file (SnapshotFault.NoMemory e) = Unit {0}
WhyNotAnew waiting table first before now file (SnapshotFault.Log e) = WhyNotOpened first before now file e
WhyNotAnew waiting table first before now file SnapshotFault.LinesWait = waiting ≢ []
WhyNotAnew waiting table first before now file SnapshotFault.NoTimestamp = table.state.clock ≡ last_timestamp
WhyNotAnew waiting table first before now file SnapshotFault.NotNew = (records : List (List ℕ)) × (records ≢ []) × HasRecords first records file
WhyNotAnew waiting table first before now file SnapshotFault.Unwritable = HasAmiss table (λ s. are_of_their_cells s.cells ≡ false)
WhyNotAnew waiting table first before now file SnapshotFault.TooLarge = HasAmiss table (λ s. 2 ^ 32 ≤ length (snapshot_bytes s))

-- why a snapshot has no record
abbrev pub WhyNoRecord : SnapshotOf → SnapshotFault → Type 0
WhyNoRecord s (SnapshotFault.NoMemory e) = Unit {0}
WhyNoRecord s SnapshotFault.Unwritable = are_of_their_cells s.cells ≡ false
WhyNoRecord s SnapshotFault.TooLarge = 2 ^ 32 ≤ length (snapshot_bytes s)
WhyNoRecord s _ = ⊥

-- why no log is begun in this file, of whose disk so many calls had failed before and have failed now
abbrev pub WhyNotBegun : List ℕ → ℕ → ℕ → List ℕ → SnapshotFault → Type 0
WhyNotBegun first before now file (SnapshotFault.NoMemory e) = Unit {0}
WhyNotBegun first before now file (SnapshotFault.Log e) = WhyNotOpened first before now file e
WhyNotBegun first before now file SnapshotFault.NotNew = (records : List (List ℕ)) × (records ≢ []) × HasRecords first records file
WhyNotBegun first before now file _ = ⊥
