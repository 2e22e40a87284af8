-- A snapshot of a table, and the bytes of its record.
use Rattle.std.specs.Prelude.{◌≡◌, ◌<◌, ◌^◌, ℕ, Bool, true, List, [], ◌∷◌, ◌++◌, length, codes}
use Rattle.std.specs.List.{flat_map, list_all, AllByRecursion}
use Rattle.std.specs.Int.{w64, to_le_bytes}
use Rattle.pb_snapshots.specs.Words.{row_of, column_of, Cell, Content, Revision, is_content_of, ObserverStats}
use Rattle.pb_base.specs.declared.limits.TheConstants.{COLUMNS, MAX_OBSERVERS}
use Rattle.pb_snapshots.specs.declared.snapshot.Snapshot.{Snapshot}

-- a snapshot, wherever it lies in memory
pub record SnapshotOf : Type 0 where
  pub clock : ℕ
  pub stats : List ObserverStats
  pub cells : List (Cell × Revision)

abbrev pub snapshot_value : Snapshot → SnapshotOf
snapshot_value s = record { clock = s.clock.0; stats = s.stats.items; cells = s.cells.items }

-- ---- what has a record

-- The cell holds such contents: data a value or a deletion, and an acknowledgment the start of the transaction that wrote it.
abbrev pub is_of_its_cell : Cell × Revision → Bool
is_of_its_cell x = is_content_of x.0 x.1

abbrev pub are_of_their_cells : List (Cell × Revision) → Bool
are_of_their_cells xs = list_all is_of_its_cell xs

-- ---- its bytes

-- a number in eight bytes, the low ones first
abbrev pub number_bytes : ℕ → List ℕ
number_bytes n = to_le_bytes w64 n

-- 0 for data with a value, 1 for data that is deleted, 2 for an acknowledgment
abbrev pub version_kind : Cell → Content → ℕ
version_kind (Cell.Ack observer row column) k = 2
version_kind (Cell.Data row column) (Content.Value bytes) = 0
version_kind (Cell.Data row column) k = 1

-- what follows the timestamps: the value, nothing, or the observer
abbrev pub held_bytes : Cell → Content → List ℕ
held_bytes (Cell.Ack observer row column) k = observer ∷ []
held_bytes (Cell.Data row column) (Content.Value bytes) = bytes
held_bytes (Cell.Data row column) k = []

-- a cell and its version: the kind, the row, the column, the start and the commit, and what is held
abbrev pub version_bytes : Cell × Revision → List ℕ
version_bytes x =
    version_kind x.0 x.1.content ∷ (number_bytes (row_of x.0).0 ++ (column_of x.0 ∷ (number_bytes x.1.start.0 ++ (number_bytes x.1.commit.0 ++ held_bytes x.0 x.1.content))))

-- the numbers of an observer
abbrev pub stats_bytes : ObserverStats → List ℕ
stats_bytes s = number_bytes s.runs ++ (number_bytes s.nonzero ++ (number_bytes s.conflicts ++ (number_bytes s.asks ++ number_bytes s.instructions)))

-- how each record of a snapshot begins: a byte that no text has, the word `snapshot`, the version 1, and the end of the line
abbrev pub snapshot_magic : List ℕ
snapshot_magic = 255 ∷ (codes "snapshot 1" ++ 10 ∷ [])

-- the clock, the number of the observers, their stats, and the cells with their versions
abbrev pub snapshot_bytes : SnapshotOf → List ℕ
snapshot_bytes s =
    snapshot_magic ++ (number_bytes s.clock ++ (number_bytes (length s.stats) ++ (flat_map stats_bytes s.stats ++ flat_map version_bytes s.cells)))

-- ---- the bounds of its numbers, within which it has one record

-- an observer has a number of five bits, and a value 32 bytes
abbrev pub FitsHeld : Cell → Content → Type 0
FitsHeld (Cell.Ack observer row column) k = observer < MAX_OBSERVERS
FitsHeld (Cell.Data row column) (Content.Value bytes) = length bytes ≡ 32
FitsHeld (Cell.Data row column) k = Unit {0}

pub record FitsVersion (x : Cell × Revision) : Type 0 where
  pub row : (row_of x.0).0 < 2 ^ 64
  pub column : column_of x.0 < COLUMNS
  pub start : x.1.start.0 < 2 ^ 64
  pub commit : x.1.commit.0 < 2 ^ 64
  pub held : FitsHeld x.0 x.1.content
  pub own : is_of_its_cell x ≡ true

pub record FitsStats (s : ObserverStats) : Type 0 where
  pub runs : s.runs < 2 ^ 64
  pub nonzero : s.nonzero < 2 ^ 64
  pub conflicts : s.conflicts < 2 ^ 64
  pub asks : s.asks < 2 ^ 64
  pub instructions : s.instructions < 2 ^ 64

pub record FitsSnapshot (s : SnapshotOf) : Type 0 where
  pub clock : s.clock < 2 ^ 64
  pub count : length s.stats < 2 ^ 64
  pub stats : AllByRecursion FitsStats s.stats
  pub cells : AllByRecursion FitsVersion s.cells
