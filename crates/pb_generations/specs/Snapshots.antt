-- A snapshot of a table on which no lock stands: what may still be viewed of it. Of each cell that is the newest version, and of a cell
-- of an observer also the version at what that has acknowledged, since a run that handles a change reads the value before it there. On
-- a quiet table both are one.
use Rattle.std.specs.Prelude.{◌≡◌, ◌↔◌, ◌⊎◌, ℕ, ◌<◌, ◌≤◌, List, [], Some, None, is_some, slice_get}
use Rattle.std.specs.FinMap as map
use Rattle.pb_generations.specs.Words.{content_in, Cell, Content, Revision, Row, Ts, ObserverOf, Entries, stamp_of, IsVersion, NoLock, data_at, last_timestamp, lock_at, write_at, StateOf, TransactionOf, Transactions, is_in, Phase, IsLegal, IsSoundTable, Entry}
use Rattle.pb_generations.specs.LateSteps.{ServesAt}
use Rattle.pb_generations.specs.Mirrored.{IsMirroredBy, IsPartOf, SameVersion, carried}

-- each had begun by then, and is of no seat that the table has, so that no step names it
abbrev pub AreEnded : StateOf → Transactions → Type 0
AreEnded old ts = (s : ℕ) (t : TransactionOf) → map.get ts s ≡ Some t → (s ≤ old.clock) × (old.seats ≤ t.seat)

-- ---- what may still be viewed

-- t is what one of these observers had acknowledged of x at c
pub record HasAcknowledged (observers : List ObserverOf) (e : Entries) (c : ℕ) (x : Cell) (t : ℕ) : Type 0 where
  pub o : ℕ
  pub row : Row
  pub observer : ObserverOf
  pub there : slice_get observers o ≡ Some observer
  pub cell : x ≡ Cell.Data row observer.column
  pub w : Revision
  pub is : IsVersion e (Cell.Ack o row observer.column) c w
  pub stamp : (stamp_of w.content).0 ≡ t

-- later steps may view x at t: at the clock or above it, or at what an observer has acknowledged
abbrev pub IsViewedAt : StateOf → Cell → ℕ → Type 0
IsViewedAt old x t = (t ≡ old.clock) ⊎ HasAcknowledged old.observers old.entries old.clock x t

-- for reads at what the observers had acknowledged at c, what was kept serves
abbrev pub ServeAcknowledged : List ObserverOf → ℕ → Entries → Entries → Type 0
ServeAcknowledged observers c whole kept = (x : Cell) (t : ℕ) → HasAcknowledged observers whole c x t → ServesAt c whole kept x t

-- an acknowledgment since c is of a later start
abbrev pub AreAcknowledgedLate : List ObserverOf → ℕ → StateOf → Type 0
AreAcknowledgedLate observers c whole =
    (o : ℕ) (row : Row) (observer : ObserverOf) → slice_get observers o ≡ Some observer → (w : Revision) → IsVersion whole.entries (Cell.Ack o row observer.column) whole.clock w → c < w.commit.0
    → c < (stamp_of w.content).0

-- wherever it may still be viewed, each cell has the same version in both; and there is nothing later, and no lock
pub record ShowsViewed (old : StateOf) (e : Entries) : Type 0 where
  pub viewed : (x : Cell) (t : ℕ) → IsViewedAt old x t → SameVersion t old.entries e x
  pub by_then : (x : Cell) (d s : ℕ) → write_at e x d ≡ Some s → (d ≤ old.clock) × (s ≤ old.clock)
  pub stored_by_then : (x : Cell) (s : ℕ) (k : Content) → data_at e x s ≡ Some k → s ≤ old.clock
  pub unlocked : (x : Cell) (s : ℕ) → lock_at e x s ≡ None

-- ---- a snapshot

-- the versions that may still be viewed, nothing that the table doesn't have, and no lock
pub record IsSnapshotOf (old : StateOf) (e : Entries) : Type 0 where
  pub viewed : (x : Cell) (t : ℕ) → IsViewedAt old x t → SameVersion t old.entries e x
  pub within : IsPartOf old.entries e
  pub stored : (x : Cell) (d s : ℕ) → write_at e x d ≡ Some s → (k : Content) × (data_at e x s ≡ Some k)
  pub unlocked : (x : Cell) (s : ℕ) → lock_at e x s ≡ None

-- a snapshot of a table without locks that a legal journal led to serves for it, with any transactions that had begun by then, also
-- for reads at what observers have acknowledged
abbrev pub SnapshotsServe : Type 0
SnapshotsServe =
    (observers : List ObserverOf) (seats clock : ℕ) (journal : List Entry) (whole : StateOf) → IsLegal observers seats clock journal whole → ((x : Cell) → NoLock whole.entries x) → whole.clock < last_timestamp
    → (e : Entries) (ts : Transactions) → IsSnapshotOf whole e → ((s : ℕ) → whole.clock < s → map.get ts s ≡ None)
    → IsMirroredBy whole.clock whole e ts × ServeAcknowledged whole.observers whole.clock whole.entries e

-- what is left of a transaction that a snapshot has a version of: it is committed there, has read nothing, is of a seat that the table
-- hasn't, and has declared and prewritten the cells of which the snapshot has its version
pub record IsLeftOf (whole : StateOf) (e : Entries) (s : ℕ) (t : TransactionOf) : Type 0 where
  pub commit : Ts
  pub phase : t.phase ≡ Phase.Committed commit
  pub some : (x : Cell) × (write_at e x commit.0 ≡ Some s)
  pub unread : t.reads ≡ []
  pub unseated : t.seat ≡ whole.seats
  pub declared : (x : Cell) (k : Content) → content_in t.declared x ≡ Some k ↔ ((write_at e x commit.0 ≡ Some s) × (data_at e x s ≡ Some k))
  pub prewritten : (x : Cell) → is_in t.prewritten x ≡ is_some (content_in t.declared x)

-- these are what is left of all of them
pub record AreLeft (whole : StateOf) (e : Entries) (ts : Transactions) : Type 0 where
  pub each : (s : ℕ) (t : TransactionOf) → map.get ts s ≡ Some t → IsLeftOf whole e s t
  pub all : (x : Cell) (c s : ℕ) → write_at e x c ≡ Some s → (t : TransactionOf) × (map.get ts s ≡ Some t)

-- with what is left of its transactions, a snapshot of a sound table is a sound table, and none of these is of a seat
abbrev pub LeftAreSound : Type 0
LeftAreSound =
    (whole : StateOf) (e : Entries) (ts : Transactions) → IsSoundTable whole → IsSnapshotOf whole e → AreLeft whole e ts → IsSoundTable (carried whole e ts) × AreEnded whole ts

-- what shows all that may be viewed of a carried table shows all that may be viewed of the whole one, so that generations follow one another
abbrev pub SnapshotsCarryOver : Type 0
SnapshotsCarryOver =
    (c : ℕ) (whole : StateOf) (e : Entries) (ts : Transactions) → IsMirroredBy c whole e ts → ServeAcknowledged whole.observers c whole.entries e → AreAcknowledgedLate whole.observers c whole
    → (f : Entries) → ShowsViewed (carried whole e ts) f → ShowsViewed whole f
