-- The state of the shared table, without journal and books: what `State` is seen as. Its entries are those of all
-- tablets, so that no step knows how they are kept.
use Rattle.std.specs.Prelude.{ℕ, Bool, List, [], ◌∷◌, Option, option_map, refl}
use Rattle.std.specs.Coded.{Coded, code_by, coded×, coded_ℕ, coded_list}
use base.Stored.{coded_unit}
use Rattle.std.specs.List.{list_any}
use Rattle.std.specs.Ordering.{nat_cmp, eq_by_cmp}
use Rattle.std.specs.FinMap as map
use Rattle.pb_steps.specs.Words.{Cell, Content, cell_cmp, Writes, Entries, Marks, ObserverOf, observer_code, acknowledgment}
use Rattle.pb_steps.specs.declared.step.Work.{Work}
use Rattle.pb_steps.specs.declared.step.Declared.{Declared}
use Rattle.pb_steps.specs.declared.seen.RecordedRead.{RecordedRead}
use Rattle.pb_steps.specs.declared.phase.Phase.{Phase}
use Rattle.pb_base.specs.contracts.cell.Cell as cell
use Rattle.pb_base.specs.contracts.content.Content as content
use Rattle.pb_store.specs.contracts.slot.Slot as slot
use Rattle.pb_store.specs.contracts.slot.Item as item
use Rattle.pb_steps.specs.contracts.step.Work as work
use Rattle.pb_steps.specs.contracts.seen.RecordedRead as read
use Rattle.pb_steps.specs.contracts.phase.Phase as phase

-- a transaction: whose it is, what for, how far it has come, what it read, and what it writes
pub record TransactionOf : Type 0 where
  pub seat : ℕ
  pub work : Work
  pub phase : Phase
  pub reads : List RecordedRead
  pub declared : Writes
  pub prewritten : List Cell

-- transactions by their starts
abbrev pub Transactions : Type 0
Transactions = map.FinMap nat_cmp TransactionOf

-- entries and marks of the table, its observers by their numbers, the last timestamp given out, and the transactions by
-- their starts
pub record StateOf : Type 0 where
  pub entries : Entries
  pub marks : Marks
  pub observers : List ObserverOf
  pub clock : ℕ
  pub seats : ℕ
  pub transactions : Transactions

-- the state before any step
abbrev pub opening : List ObserverOf → ℕ → ℕ → StateOf
opening observers seats last = record { entries = map.empty; marks = map.empty; observers = observers; clock = last; seats = seats; transactions = map.empty }

-- a transaction as it begins
abbrev pub new_transaction : ℕ → Work → TransactionOf
new_transaction seat w = record { seat = seat; work = w; phase = Phase.Reading; reads = []; declared = []; prewritten = [] }

-- the state with this transaction under a start
abbrev pub with_transaction : StateOf → ℕ → TransactionOf → StateOf
with_transaction old s t = record old { transactions = map.insert old.transactions s t }

-- how far the transaction of a start has come
abbrev pub phase_in : StateOf → ℕ → Option Phase
phase_in s start = option_map (λ t. t.phase) (map.get s.transactions start)

-- what a declaration writes: a script its batch; a run of start s its acknowledgment, stamped with s, and then the writes
-- of its program
abbrev pub cells_of : List ObserverOf → Work → ℕ → Declared → Writes
cells_of observers work s (Declared.Script batch) = batch
cells_of observers Work.Script s (Declared.Run o f) = f.writes
cells_of observers (Work.Run p row) s (Declared.Run o f) = (acknowledgment observers p row, Content.Stamp (record { 0 = s })) ∷ f.writes

-- what a script declares
abbrev pub batch_in : Declared → Writes
batch_in (Declared.Script batch) = batch
batch_in (Declared.Run o f) = []

-- the cell is in the list
abbrev pub is_in : List Cell → Cell → Bool
is_in xs x = list_any (λ y. eq_by_cmp cell_cmp y x) xs

-- ---- how a model keeps it

-- a transaction as a tree of numbers, field by field
abbrev pub transaction_code : Coded TransactionOf
transaction_code =
    code_by (ℕ × (Work × (Phase × (List RecordedRead × (Writes × List Cell)))))
    (coded× coded_ℕ (coded× work.the_row.coded (coded× phase.the_row.coded (coded× (coded_list read.the_row.coded) (coded× (coded_list (coded× cell.the_row.coded content.the_row.coded)) (coded_list cell.the_row.coded))))))
    (λ t. (t.seat, (t.work, (t.phase, (t.reads, (t.declared, t.prewritten))))))
    (λ p. record { seat = p.0; work = p.1.0; phase = p.1.1.0; reads = p.1.1.1.0; declared = p.1.1.1.1.0; prewritten = p.1.1.1.1.1 })
    (λ _. refl)

-- all transactions as one
abbrev pub transactions_code : Coded Transactions
transactions_code = map.code coded_ℕ transaction_code

-- a state as one
abbrev pub state_code : Coded StateOf
state_code =
    code_by (Entries × (Marks × (List ObserverOf × (ℕ × (ℕ × Transactions)))))
    (coded× (map.code slot.the_row.coded item.the_row.coded) (coded× (map.code cell.the_row.coded coded_unit) (coded× (coded_list observer_code) (coded× coded_ℕ (coded× coded_ℕ transactions_code)))))
    (λ s. (s.entries, (s.marks, (s.observers, (s.clock, (s.seats, s.transactions))))))
    (λ p. record { entries = p.0; marks = p.1.0; observers = p.1.1.0; clock = p.1.1.1.0; seats = p.1.1.1.1.0; transactions = p.1.1.1.1.1 })
    (λ _. refl)
