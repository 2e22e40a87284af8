-- What the table that a legal journal leads to shows of its history (OSDI 2010, section 2.2).
use Rattle.std.specs.Prelude.{◌≡◌, ◌≢◌, ℕ, ◌⊎◌, List, Some}
use Rattle.pb_history.specs.Words.{Cell, Content, StateOf, ObserverOf, lock_at, write_at}
use Rattle.pb_history.specs.declared.entry.Entry.{Entry}
use Rattle.pb_history.specs.History.{Member, InHistory, WritesTo}

-- the transaction of start s was committed at c and wrote x
pub record WroteAt (observers : List ObserverOf) (journal : List Entry) (x : Cell) (c s : ℕ) : Type 0 where
  pub m : Member
  pub in_history : InHistory observers journal m
  pub start_is : m.start ≡ s
  pub commit_is : m.commit ≡ c
  pub content : Content
  pub writes : WritesTo m x content

-- the table has the locks and write records of the history, and no other write record
pub record TellsRecords (journal : List Entry) (state : StateOf) : Type 0 where
  -- a committed transaction has its write record or its lock on each cell that it wrote
  pub stands : (m : Member) → InHistory state.observers journal m → (x : Cell) (k : Content) → WritesTo m x k → (write_at state.entries x m.commit ≡ Some m.start) ⊎ ((p : Cell) × (lock_at state.entries x m.start ≡ Some p))
  -- a write record is that of a committed transaction which wrote the cell
  pub written : (x : Cell) (c s : ℕ) → write_at state.entries x c ≡ Some s → WroteAt state.observers journal x c s
  -- one that isn't committed has none anywhere
  pub uncommitted : (s : ℕ) → ((m : Member) → InHistory state.observers journal m → m.start ≢ s) → (x : Cell) (c : ℕ) → write_at state.entries x c ≢ Some s
