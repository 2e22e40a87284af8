-- A state that begins with versions of cells, as a generation does: what they must be, what stands then, and what is left of
-- the transactions that wrote them.
use Rattle.std.specs.Prelude.{◌≡◌, ◌↔◌, ℕ, ◌<◌, ◌≤◌, ◌==◌, ◌&&◌, ◌||◌, nat_lt, Bool, true, false, List, [], ◌∷◌, ◌++◌, take, Option, Some, None, is_some, slice_get, length, ◌-◌, ◌⊎◌}
use Rattle.std.specs.FinMap as map
use Rattle.std.specs.Ordering.{is_lt}
use Rattle.pb_state.specs.Words.{Cell, Content, Revision, Ts, Entries, Item, Sort, ObserverOf, Phase, StateOf, TransactionOf, Transactions, Work, Has, cell_cmp, content_in, data_at, is_in, is_unstamped, lock_at, slot_at, write_at}
use Rattle.pb_state.specs.declared.carry_fault.CarryFault.{CarryFault}

-- cells with a version of each
abbrev pub CellVersions : Type 0
CellVersions = List (Cell × Revision)

-- ---- which versions are carried over

-- an earlier cell of the same transaction, or one of a transaction that was committed before the other began
abbrev pub comes_before : Cell × Revision → Cell × Revision → Bool
comes_before a b = ((a.1.start.0 == b.1.start.0) && ((a.1.commit.0 == b.1.commit.0) && is_lt (cell_cmp a.0 b.0))) || nat_lt a.1.commit.0 b.1.start.0

-- the stamp of this start
abbrev pub is_stamp_of : Ts → Content → Bool
is_stamp_of start (Content.Stamp t) = t.0 == start.0
is_stamp_of start _ = false

-- a data cell has no stamp, and an acknowledgment that of the run which wrote it
abbrev pub is_content_of : Cell → Revision → Bool
is_content_of (Cell.Data row column) v = is_unstamped v.content
is_content_of (Cell.Ack o row column) v = is_stamp_of v.start v.content

-- there is an observer, of this column
abbrev pub is_of_column : Option ObserverOf → ℕ → Bool
is_of_column None column = false
is_of_column (Some o) column = o.column == column

-- an acknowledgment is of an observer that there is
abbrev pub has_its_observer : List ObserverOf → Cell → Bool
has_its_observer observers (Cell.Data row column) = true
has_its_observer observers (Cell.Ack o row column) = is_of_column (slice_get observers o) column

-- the version may come next after those before it
pub record MayFollow (observers : List ObserverOf) (last : ℕ) (before : CellVersions) (next : Cell × Revision) : Type 0 where
  pub above : next.1.start.0 < next.1.commit.0
  pub by_then : next.1.commit.0 ≤ last
  pub in_order : (c : Cell × Revision) → Has before c → comes_before c next ≡ true
  pub its_content : is_content_of next.0 next.1 ≡ true
  pub observed : has_its_observer observers next.0 ≡ true

-- each may come next after those before it
abbrev pub AreInOrder : List ObserverOf → ℕ → CellVersions → Type 0
AreInOrder observers last cells = (n : ℕ) (c : Cell × Revision) → slice_get cells n ≡ Some c → MayFollow observers last (take n cells) c

-- why a version may not come next after those before it
abbrev pub IsAmiss : List ObserverOf → ℕ → CellVersions → Cell × Revision → CarryFault → Type 0
IsAmiss observers last before next (CarryFault.NoMemory _) = Unit {0}
IsAmiss observers last before next CarryFault.NotAboveStart = next.1.commit.0 ≤ next.1.start.0
IsAmiss observers last before next CarryFault.AboveLast = last < next.1.commit.0
IsAmiss observers last before next CarryFault.OutOfOrder = (c : Cell × Revision) × Has before c × (comes_before c next ≡ false)
IsAmiss observers last before next CarryFault.NotItsContent = is_content_of next.0 next.1 ≡ false
IsAmiss observers last before next CarryFault.NoItsObserver = has_its_observer observers next.0 ≡ false

-- why the version at this place isn't carried over
abbrev pub WhyNotCarried : List ObserverOf → ℕ → CellVersions → ℕ → CarryFault → Type 0
WhyNotCarried observers last cells n e = (c : Cell × Revision) × (slice_get cells n ≡ Some c) × IsAmiss observers last (take n cells) c e

-- the number that each is reported with
abbrev pub carry_code : CarryFault → ℕ
carry_code (CarryFault.NoMemory _) = 1
carry_code CarryFault.NotAboveStart = 100
carry_code CarryFault.AboveLast = 101
carry_code CarryFault.OutOfOrder = 102
carry_code CarryFault.NotItsContent = 104
carry_code CarryFault.NoItsObserver = 105

-- it is one of them, and each other comes before it
abbrev pub IsLatest : CellVersions → Cell × Revision → Type 0
IsLatest cells c = Has cells c × ((d : Cell × Revision) → Has cells d → (d ≡ c) ⊎ (comes_before d c ≡ true))

-- what comes of the order: commits above their starts and at most the last timestamp, one transaction after the other, of each
-- cell one version by a transaction, and the last version after all others
pub record AreVersionsBy (last : ℕ) (cells : CellVersions) : Type 0 where
  pub above : (c : Cell × Revision) → Has cells c → c.1.start.0 < c.1.commit.0
  pub by_then : (c : Cell × Revision) → Has cells c → c.1.commit.0 ≤ last
  pub one_commit : (c d : Cell × Revision) → Has cells c → Has cells d → c.1.start.0 ≡ d.1.start.0 → c.1.commit.0 ≡ d.1.commit.0
  pub one_start : (c d : Cell × Revision) → Has cells c → Has cells d → c.1.commit.0 ≡ d.1.commit.0 → c.1.start.0 ≡ d.1.start.0
  pub serial : (c d : Cell × Revision) → Has cells c → Has cells d → (c.1.start.0 ≡ d.1.start.0) ⊎ ((c.1.commit.0 < d.1.start.0) ⊎ (d.1.commit.0 < c.1.start.0))
  pub once : (x : Cell) (v w : Revision) → Has cells (x, v) → Has cells (x, w) → v.start.0 ≡ w.start.0 → v ≡ w
  pub latest : (c : Cell × Revision) → slice_get cells (length cells - 1) ≡ Some c → IsLatest cells c

-- ---- what stands then

-- the entries are the data and the write record of each version, and nothing else
pub record HoldsVersions (cells : CellVersions) (e : Entries) : Type 0 where
  pub kept : (x : Cell) (v : Revision) → Has cells (x, v) → (write_at e x v.commit.0 ≡ Some v.start.0) × (data_at e x v.start.0 ≡ Some v.content)
  pub only : (x : Cell) (d s : ℕ) → write_at e x d ≡ Some s → (v : Revision) × Has cells (x, v) × (v.commit.0 ≡ d) × (v.start.0 ≡ s)
  pub no_more : (x : Cell) (s : ℕ) (k : Content) → data_at e x s ≡ Some k → (v : Revision) × Has cells (x, v) × (v.start.0 ≡ s) × (v.content ≡ k)
  pub unlocked : (x : Cell) (s : ℕ) → lock_at e x s ≡ None

-- what is left of a transaction: it is committed, of no seat of the table, has read nothing, and declared and prewrote the
-- cells of its versions
pub record IsLeftOver (seats : ℕ) (cells : CellVersions) (s : ℕ) (t : TransactionOf) : Type 0 where
  pub commit : Ts
  pub phase : t.phase ≡ Phase.Committed commit
  pub some : (x : Cell) × (v : Revision) × Has cells (x, v) × (v.start.0 ≡ s) × (v.commit ≡ commit)
  pub unread : t.reads ≡ []
  pub unseated : t.seat ≡ seats
  pub declared : (x : Cell) (k : Content) → content_in t.declared x ≡ Some k ↔ ((v : Revision) × Has cells (x, v) × (v.start.0 ≡ s) × (v.content ≡ k))
  pub prewritten : (x : Cell) → is_in t.prewritten x ≡ is_some (content_in t.declared x)

-- these are what is left of all of them
pub record AreLeftOver (seats : ℕ) (cells : CellVersions) (ts : Transactions) : Type 0 where
  pub each : (s : ℕ) (t : TransactionOf) → map.get ts s ≡ Some t → IsLeftOver seats cells s t
  pub all : (x : Cell) (v : Revision) → Has cells (x, v) → (t : TransactionOf) × (map.get ts v.start.0 ≡ Some t)

-- a state that begins with these versions, of which the last timestamp was given out by then
pub record IsCarriedOver (observers : List ObserverOf) (seats last : ℕ) (cells : CellVersions) (state : StateOf) : Type 0 where
  pub entries_are : HoldsVersions cells state.entries
  pub transactions_are : AreLeftOver seats cells state.transactions
  pub marks_are : state.marks ≡ map.empty
  pub observers_are : state.observers ≡ observers
  pub clock_is : state.clock ≡ last
  pub seats_are : state.seats ≡ seats

-- ---- one version more

-- its data and its write record
abbrev pub put_version : Entries → Cell → Revision → Entries
put_version e x v = map.insert (map.insert e (slot_at x Sort.Data v.start.0) (Item.Data v.content)) (slot_at x Sort.Write v.commit.0) (Item.Write v.start)

-- what is left of a transaction with its first cell
abbrev pub left_transaction : ℕ → Ts → Cell → Content → TransactionOf
left_transaction seat commit x k = record { seat = seat; work = Work.Script; phase = Phase.Committed commit; reads = []; declared = (x, k) ∷ []; prewritten = x ∷ [] }

-- and with a cell more
abbrev pub with_cell : TransactionOf → Cell → Content → TransactionOf
with_cell t x k = record t { declared = t.declared ++ (x, k) ∷ []; prewritten = t.prewritten ++ x ∷ [] }

-- what is left of a transaction that may be new
abbrev pub left_over_by : ℕ → Option TransactionOf → Cell → Revision → TransactionOf
left_over_by seats None x v = left_transaction seats v.commit x v.content
left_over_by seats (Some t) x v = with_cell t x v.content

-- the state with a version more
abbrev pub state_with_version : StateOf → Cell → Revision → StateOf
state_with_version old x v = record old { entries = put_version old.entries x v; transactions = map.insert old.transactions v.start.0 (left_over_by old.seats (map.get old.transactions v.start.0) x v) }

-- the version's transaction is one of these, or began after all of them
abbrev pub IsOrBeganLast : Transactions → ℕ → Type 0
IsOrBeganLast ts start = map.get ts start ≡ None → (s : ℕ) (t : TransactionOf) → map.get ts s ≡ Some t → s < start
