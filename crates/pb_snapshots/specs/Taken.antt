-- What a snapshot of a table has.
use Rattle.std.specs.Prelude.{◌≡◌, ◌⊎◌, ℕ, ◌<◌, ◌≤◌, List, Some, None}
use Rattle.pb_snapshots.specs.Words.{Cell, Revision, ObserverOf, Entries, SomeBehind, data_at, write_at, StateOf, Has, KeptTable}
use Rattle.pb_snapshots.specs.Snapshot.{SnapshotOf}

-- no record of x has a later commit, up to s
abbrev pub IsLastRecord : Entries → ℕ → Cell → ℕ → Type 0
IsLastRecord e s x c = (d : ℕ) → c < d → d ≤ s → write_at e x d ≡ None

-- A version that stands, with its record up to s and its data: the last one of its cell, or any of a cell that an observer isn't up
-- to date on, since a run that handles a change there reads the value before it.
pub record IsTaken (observers : List ObserverOf) (e : Entries) (s : ℕ) (x : Cell) (v : Revision) : Type 0 where
  pub low : v.commit.0 ≤ s
  pub written : write_at e x v.commit.0 ≡ Some v.start.0
  pub content : data_at e x v.start.0 ≡ Some v.content
  pub wanted : IsLastRecord e s x v.commit.0 ⊎ SomeBehind observers e x

-- and so of a state, up to its clock
abbrev pub IsTakenOf : StateOf → Cell → Revision → Type 0
IsTakenOf state x v = IsTaken state.observers state.entries state.clock x v

-- the clock, what the runs of the observers did, and these versions, acknowledgments too, and nothing else
pub record IsSnapshotTaken (table : KeptTable) (s : SnapshotOf) : Type 0 where
  pub clock : s.clock ≡ table.state.clock
  pub stats : s.stats ≡ table.stats
  pub each : (x : Cell) (v : Revision) → Has s.cells (x, v) → IsTakenOf table.state x v
  pub all : (x : Cell) (v : Revision) → IsTakenOf table.state x v → Has s.cells (x, v)
