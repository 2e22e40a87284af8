-- What stands at the front of a list of bytes: a number, an observer's numbers, or a version. The contracts of the code's readers
-- cite it; that it finds what was written is proved.
use Rattle.std.specs.Prelude.{ℕ, zero, suc, List, [], ◌∷◌, length, take, drop, Option, Some, None, nat_lt, if◌then◌else◌}
use Rattle.std.specs.Int.{w64, from_le_bytes}
use Rattle.pb_snapshots.specs.Words.{Cell, Content, Revision, ObserverStats}
use Rattle.pb_base.specs.declared.limits.TheConstants.{COLUMNS, MAX_OBSERVERS}

-- what is found, and then what is found after it
infixl 10 ◌>>=◌
abbrev pub ◌>>=◌ : {A B : Type 0} → Option A → (A → Option B) → Option B
(Some x) >>= f = f x
None >>= f = None

-- a number of eight bytes, and what follows it
abbrev pub u64_at : List ℕ → Option (ℕ × List ℕ)
u64_at bytes = if nat_lt (length bytes) 8 then None else Some (from_le_bytes w64 (take 8 bytes), drop 8 bytes)

-- a number of one byte, which is below a limit
abbrev pub small_at : ℕ → List ℕ → Option (ℕ × List ℕ)
small_at limit [] = None
small_at limit (b ∷ rest) = if nat_lt b limit then Some (b, rest) else None

-- a version of this kind from what it holds on: the cell and the content
unfoldable pub held_at : ℕ → ℕ → ℕ → ℕ → List ℕ → Option ((Cell × Content) × List ℕ)
held_at zero row column start bytes = if nat_lt (length bytes) 32 then None else Some ((Cell.Data (record { 0 = row }) column, Content.Value (take 32 bytes)), drop 32 bytes)
held_at (suc zero) row column start bytes = Some ((Cell.Data (record { 0 = row }) column, Content.Deleted), bytes)
held_at (suc (suc kind)) row column start bytes = do
  observer ← small_at MAX_OBSERVERS bytes
  Some ((Cell.Ack observer.0 (record { 0 = row }) column, Content.Stamp (record { 0 = start })), observer.1)

-- a cell and its version
unfoldable pub version_at : List ℕ → Option ((Cell × Revision) × List ℕ)
version_at bytes = do
  kind ← small_at 3 bytes
  row ← u64_at kind.1
  column ← small_at COLUMNS row.1
  start ← u64_at column.1
  commit ← u64_at start.1
  held ← held_at kind.0 row.0 column.0 start.0 commit.1
  Some ((held.0.0, record { start = record { 0 = start.0 }; commit = record { 0 = commit.0 }; content = held.0.1 }), held.1)

-- the numbers of an observer
unfoldable pub stats_at : List ℕ → Option (ObserverStats × List ℕ)
stats_at bytes = do
  runs ← u64_at bytes
  nonzero ← u64_at runs.1
  conflicts ← u64_at nonzero.1
  asks ← u64_at conflicts.1
  instructions ← u64_at asks.1
  Some (record { runs = runs.0; nonzero = nonzero.0; conflicts = conflicts.0; asks = asks.0; instructions = instructions.0 }, instructions.1)
