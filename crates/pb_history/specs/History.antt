-- The committed transactions of a journal, and the snapshots that they make (OSDI 2010, sections 2.2 and 2.3).
use Rattle.std.specs.Prelude.{◌≡◌, ℕ, ◌<◌, ◌≤◌, ◌⊎◌, Bool, true, List, [], ◌∷◌, Some}
use Rattle.std.specs.FinMap as map
use Rattle.pb_history.specs.Words.{Cell, Content, Revision, Writes, content_in, are_distinct, Reply, record_by, Work, Declared, Step, Answer, Phase, StateOf, TransactionOf, cells_of, ObserverOf, observed_cell, IsKnown}
use Rattle.pb_history.specs.declared.entry.Entry.{Entry}

-- a list has an item
abbrev pub Has : {A : Type 0} → List A → A → Type 0
Has [] x = ⊥
Has (y ∷ ys) x = (y ≡ x) ⊎ Has ys x

-- the journal has an entry of this seat with this step and answer
abbrev pub IsEntry : List Entry → ℕ → Step → Answer → Type 0
IsEntry journal seat step answer = Has journal (record { seat = seat; step = step; answer = answer })

-- a committed transaction
pub record Member : Type 0 where
  pub start : ℕ
  pub commit : ℕ
  pub seat : ℕ
  pub work : Work
  pub writes : Writes

-- a transaction of the journal with the answer `Committed`: its commit is its stamp, its writes are what it declared
pub record InHistory (observers : List ObserverOf) (journal : List Entry) (m : Member) : Type 0 where
  pub begun : IsEntry journal m.seat (Step.Begin m.work) (Answer.At (record { 0 = m.start }))
  pub what : Declared
  pub declared : IsEntry journal m.seat (Step.Declare (record { 0 = m.start }) what) Answer.Done
  pub writes_are : m.writes ≡ cells_of observers m.work m.start what
  pub stamped : IsEntry journal m.seat (Step.Stamp (record { 0 = m.start })) (Answer.At (record { 0 = m.commit }))
  pub committed : IsEntry journal m.seat (Step.CommitPrimary (record { 0 = m.start })) Answer.Committed

-- x is written with this content
abbrev pub WritesTo : Member → Cell → Content → Type 0
WritesTo m x content = content_in m.writes x ≡ Some content

-- of the writes to x with a commit at most s, this is the one with the greatest
pub record IsSnapshot (observers : List ObserverOf) (journal : List Entry) (s : ℕ) (x : Cell) (start commit : ℕ) (content : Content) : Type 0 where
  pub m : Member
  pub in_history : InHistory observers journal m
  pub start_is : m.start ≡ start
  pub commit_is : m.commit ≡ commit
  pub writes : WritesTo m x content
  pub seen : commit ≤ s
  pub greatest : (n : Member) (k : Content) → InHistory observers journal n → WritesTo n x k → n.commit ≤ s → n.commit ≤ commit

-- no write to x has a commit at most s
abbrev pub NoSnapshot : List ObserverOf → List Entry → ℕ → Cell → Type 0
NoSnapshot observers journal s x = (n : Member) (k : Content) → InHistory observers journal n → WritesTo n x k → s < n.commit

-- the state has this transaction, committed
pub record IsCommitted (state : StateOf) (m : Member) : Type 0 where
  pub t : TransactionOf
  pub there : map.get state.transactions m.start ≡ Some t
  pub phase : t.phase ≡ Phase.Committed (record { 0 = m.commit })
  pub seat : m.seat ≡ t.seat
  pub work : m.work ≡ t.work
  pub writes : m.writes ≡ t.declared

-- the declaration is one for this work: a script's batch, or a run of its observer on a record of the cell that it observes
abbrev pub IsForWork : List ObserverOf → Work → Declared → Type 0
IsForWork observers Work.Script (Declared.Script batch) = Unit {0}
IsForWork observers (Work.Run p row) (Declared.Run o f) = (o ≡ p) × (second : Bool) × (v : Revision) × (acknowledged : ℕ) × (old : Reply) × (f.bytes ≡ record_by second (observed_cell observers p row) v acknowledged old)
IsForWork observers _ _ = ⊥

-- the state has what a declaration named, each cell once, and that is known, and for its transaction's work
pub record IsDeclared (state : StateOf) (start : ℕ) (what : Declared) : Type 0 where
  pub t : TransactionOf
  pub there : map.get state.transactions start ≡ Some t
  pub declared : t.declared ≡ cells_of state.observers t.work start what
  pub distinct : are_distinct t.declared ≡ true
  pub known : IsKnown what
  pub for_work : IsForWork state.observers t.work what

-- the history of a journal, as the state that it leads to records it
pub record TellsHistory (journal : List Entry) (state : StateOf) : Type 0 where
  pub early : (s : ℕ) (t : TransactionOf) → map.get state.transactions s ≡ Some t → s ≤ state.clock
  pub committed : (m : Member) → InHistory state.observers journal m → IsCommitted state m
  pub member : (m : Member) → IsCommitted state m → InHistory state.observers journal m
  pub declared : (seat start : ℕ) (what : Declared) → IsEntry journal seat (Step.Declare (record { 0 = start }) what) Answer.Done → IsDeclared state start what
