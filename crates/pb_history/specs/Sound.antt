-- What holds of the table after every step (OSDI 2010, section 2.2): how transactions, locks, write records and data go together,
-- and what a recorded read still shows.
use Rattle.std.specs.Prelude.{◌≡◌, ◌≢◌, ℕ, ◌<◌, ◌≤◌, ◌^◌, ◌⊎◌, true, Some, None, is_some}
use Rattle.std.specs.FinMap as map
use Rattle.pb_history.specs.Words.{Cell, Content, Entries, Phase, RecordedRead, Answer, read_up_to, StateOf, TransactionOf, data_at, lock_at, write_at}
use Rattle.pb_history.specs.History.{Has}
use Rattle.pb_history.specs.TableView.{TableView, view_of}

-- the transaction of start s has the commit timestamp c, and isn't committed
abbrev pub IsStampedAt : TableView → ℕ → ℕ → Type 0
IsStampedAt v s c = v.phase s ≡ Some (Phase.Stamped (record { 0 = c }))

-- it is committed at c
abbrev pub IsCommittedAt : TableView → ℕ → ℕ → Type 0
IsCommittedAt v s c = v.phase s ≡ Some (Phase.Committed (record { 0 = c }))

-- one of both
abbrev pub HasStamp : TableView → ℕ → ℕ → Type 0
HasStamp v s c = IsStampedAt v s c ⊎ IsCommittedAt v s c

-- the write record of commit c stands on x, and names start s
abbrev pub HasRecord : TableView → Cell → ℕ → ℕ → Type 0
HasRecord v x c s = v.write x c ≡ Some s

-- the lock of s stands on x
abbrev pub HasLock : TableView → Cell → ℕ → Type 0
HasLock v x s = (p : Cell) × (v.lock x s ≡ Some p)

-- no lock of s stands on its primary
abbrev pub LacksPrimary : TableView → ℕ → Type 0
LacksPrimary v s = (p : Cell) → v.primary s ≡ Some p → v.lock p s ≡ None

-- a read of x in the snapshot at s returns the newest write record of a commit at most s with its data, or that there is none
abbrev pub ReadTells : TableView → ℕ → Cell → Answer → Type 0
ReadTells v s x (Answer.Found start commit content) = (commit.0 ≤ s) × HasRecord v x commit.0 start.0 × (v.stored x start.0 ≡ Some content) × ((c u : ℕ) → c ≤ s → HasRecord v x c u → c ≤ commit.0)
ReadTells v s x Answer.Absent = (c u : ℕ) → c ≤ s → HasRecord v x c u → ⊥
ReadTells v s x _ = ⊥

-- stated for functions, so that a step changes few of them, and each at one timestamp or cell
pub record IsSoundView (v : TableView) : Type 0 where
  -- ---- timestamps

  -- the clock has 64 bits
  pub small : v.clock < 2 ^ 64
  -- no transaction began above the clock
  pub begun : (s : ℕ) (h : Phase) → v.phase s ≡ Some h → s ≤ v.clock
  -- a commit is above its start and at most the clock
  pub stamped : (s c : ℕ) → HasStamp v s c → (s < c) × (c ≤ v.clock)
  -- and is one transaction's
  pub one_stamp : (s u c : ℕ) → HasStamp v s c → HasStamp v u c → s ≡ u
  -- ---- prewritten cells

  -- what is prewritten was declared
  pub was_declared : (s : ℕ) (x : Cell) → v.prewritten s x ≡ true → (k : Content) × (v.content s x ≡ Some k)
  -- by a transaction that reads no more
  pub past_reading : (s : ℕ) (x : Cell) → v.prewritten s x ≡ true → (v.phase s ≢ Some Phase.Reading) × (v.phase s ≢ None)
  -- the primary comes before the other cells
  pub primary_first : (s : ℕ) (x p : Cell) → v.prewritten s x ≡ true → v.primary s ≡ Some p → v.prewritten s p ≡ true
  -- a stamped transaction has prewritten all that it declared
  pub all_prewritten : (s c : ℕ) (x : Cell) (k : Content) → IsStampedAt v s c → v.content s x ≡ Some k → v.prewritten s x ≡ true
  -- ---- locks

  -- a lock stands on a prewritten cell, and names its transaction's primary
  pub lock_prewritten : (x : Cell) (s : ℕ) (p : Cell) → v.lock x s ≡ Some p → (v.prewritten s x ≡ true) × (v.primary s ≡ Some p)
  -- beside it stands what its transaction declared to write
  pub lock_data : (x : Cell) (s : ℕ) (p : Cell) → v.lock x s ≡ Some p → v.stored x s ≡ v.content s x
  -- a cell has one lock at most
  pub one_lock : (x : Cell) (s u : ℕ) (p q : Cell) → v.lock x s ≡ Some p → v.lock x u ≡ Some q → s ≡ u
  -- while the lock of the primary stands, those on all cells that were prewritten do
  pub all_locked : (s : ℕ) (p x : Cell) → v.primary s ≡ Some p → v.lock p s ≡ Some p → v.prewritten s x ≡ true → v.lock x s ≡ Some p
  -- ---- write records

  -- a write record is one of a committed transaction, at its commit
  pub record_committed : (x : Cell) (c s : ℕ) → HasRecord v x c s → IsCommittedAt v s c
  -- which prewrote the cell
  pub record_prewritten : (x : Cell) (c s : ℕ) → HasRecord v x c s → v.prewritten s x ≡ true
  -- the data of that start are what its transaction declared to write
  pub record_data : (x : Cell) (c s : ℕ) → HasRecord v x c s → v.stored x s ≡ v.content s x
  -- and its lock is gone
  pub record_unlocked : (x : Cell) (c s : ℕ) → HasRecord v x c s → v.lock x s ≡ None
  -- the write records of a locked cell are of commits below the start of its lock
  pub behind_lock : (x : Cell) (s : ℕ) (p : Cell) (c u : ℕ) → v.lock x s ≡ Some p → HasRecord v x c u → c < s
  -- of two transactions with write records on one cell, one was committed before the other began
  pub apart : (x : Cell) (c s d u : ℕ) → HasRecord v x c s → HasRecord v x d u → s ≢ u → (c < u) ⊎ (d < s)
  -- ---- committed transactions

  -- each has its write record or its lock on every cell that it declared
  pub stands : (s c : ℕ) (x : Cell) (k : Content) → IsCommittedAt v s c → v.content s x ≡ Some k → HasRecord v x c s ⊎ HasLock v x s
  -- and its write record on the primary
  pub primary_stands : (s c : ℕ) (p : Cell) → IsCommittedAt v s c → v.primary s ≡ Some p → HasRecord v p c s
  -- ---- recorded reads

  -- nothing was read up to a timestamp above the clock
  pub read_begun : (s : ℕ) (r : RecordedRead) → Has (v.reads s) r → read_up_to s r.at ≤ v.clock
  -- each read still shows the newest write record of its snapshot
  pub tells : (s : ℕ) (r : RecordedRead) → Has (v.reads s) r → ReadTells v (read_up_to s r.at) r.cell r.answer
  -- and none will come to that snapshot: a transaction that writes the cell with a commit in it has its write record there, or is
  -- not committed and never will be, since the lock on its primary is gone
  pub settled : (s : ℕ) (r : RecordedRead) (u c : ℕ) (k : Content) → Has (v.reads s) r → HasStamp v u c → c ≤ read_up_to s r.at → v.content u r.cell ≡ Some k → HasRecord v r.cell c u ⊎ ((IsCommittedAt v u c → ⊥) × LacksPrimary v u)

-- what `State` keeps by its type
abbrev pub IsSoundTable : StateOf → Type 0
IsSoundTable state = IsSoundView (view_of state)

-- where a lock or a write record of a start stands, its data stand
pub record HasData (e : Entries) : Type 0 where
  pub locked : (x : Cell) (s : ℕ) (p : Cell) → lock_at e x s ≡ Some p → is_some (data_at e x s) ≡ true
  pub written : (x : Cell) (c s : ℕ) → write_at e x c ≡ Some s → is_some (data_at e x s) ≡ true

-- what code needs to know of a sound state: the data of what stands, starts up to its clock, and a clock of 64 bits
pub record KeepsData (state : StateOf) : Type 0 where
  pub whole : HasData state.entries
  pub begun : (s : ℕ) (t : TransactionOf) → map.get state.transactions s ≡ Some t → s ≤ state.clock
  pub fits : state.clock < 2 ^ 64
