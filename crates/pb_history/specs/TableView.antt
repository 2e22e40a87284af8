-- The state of the table as functions: of a start, what its transaction is, and of a cell and a timestamp, what stands
-- there.
use Rattle.std.specs.Prelude.{ℕ, Bool, List, [], Option, Some, None}
use Rattle.std.specs.FinMap as map
use Rattle.pb_history.specs.Words.{Cell, Content, Writes, content_in, primary_in, Phase, RecordedRead, StateOf, TransactionOf, phase_in, is_in, data_at, lock_at, write_at}

-- nothing of seats, work or marks, since soundness speaks of none of them
pub record TableView : Type 0 where
  -- the last timestamp given out
  pub clock : ℕ
  -- how far the transaction of a start has come, what it declared to write to a cell, its primary, whether it prewrote
  -- a cell, and what it read
  pub phase : ℕ → Option Phase
  pub content : ℕ → Cell → Option Content
  pub primary : ℕ → Option Cell
  pub prewritten : ℕ → Cell → Bool
  pub reads : ℕ → List RecordedRead
  -- the primary named by the lock of a start on a cell, the data of a start there, and the start named by the write
  -- record of a commit
  pub lock : Cell → ℕ → Option Cell
  pub stored : Cell → ℕ → Option Content
  pub write : Cell → ℕ → Option ℕ

-- what a transaction declared to write, and nothing where there is none
abbrev pub declared_by : Option TransactionOf → Writes
declared_by None = []
declared_by (Some t) = t.declared

-- the cells that it has prewritten
abbrev pub prewritten_by : Option TransactionOf → List Cell
prewritten_by None = []
prewritten_by (Some t) = t.prewritten

-- its recorded reads
abbrev pub reads_recorded : Option TransactionOf → List RecordedRead
reads_recorded None = []
reads_recorded (Some t) = t.reads

-- a state as these functions
abbrev pub view_of : StateOf → TableView
view_of state = record {
  clock = state.clock;
  phase = phase_in state;
  content = λ s. content_in (declared_by (map.get state.transactions s));
  primary = λ s. primary_in (declared_by (map.get state.transactions s));
  prewritten = λ s. is_in (prewritten_by (map.get state.transactions s));
  reads = λ s. reads_recorded (map.get state.transactions s);
  lock = lock_at state.entries;
  stored = data_at state.entries;
  write = write_at state.entries;
}
