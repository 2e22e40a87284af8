-- Journals of a table whose observers have other numbers. The number of an observer stands in its acknowledgments, and in what its
-- runs begin and declare. So where these are renumbered, and no two observers get one number, a table that has the observers under
-- the new numbers takes the same steps, with the same answers.
use Rattle.std.specs.Prelude.{◌≡◌, ℕ, List, map as map_list, Some, option_map, slice_get}
use Rattle.std.specs.FinMap as map
use Rattle.pb_generations.specs.Words.{Writes, Cell, Content, ObserverOf, Entries, data_at, lock_at, write_at, StateOf, TransactionOf, Transactions, RecordedRead, Answer, Declared, Step, Work, IsQuiet, IsLegal, Entry}
use Rattle.pb_generations.specs.SameButMarks.{IsLegalButMarks}

-- no two numbers become one
abbrev pub IsOneToOne : (ℕ → ℕ) → Type 0
IsOneToOne number = (i j : ℕ) → number i ≡ number j → i ≡ j

-- each observer of the old list stands in the new one under its new number; others may stand there too
abbrev pub AreNumberedBy : (ℕ → ℕ) → List ObserverOf → List ObserverOf → Type 0
AreNumberedBy number old new = (i : ℕ) (observer : ObserverOf) → slice_get old i ≡ Some observer → slice_get new (number i) ≡ Some observer

-- ---- what has a number of an observer

-- an acknowledgment is one of its observer's new number, and a data cell is as it was
abbrev pub renumbered_cell : (ℕ → ℕ) → Cell → Cell
renumbered_cell number (Cell.Data row column) = Cell.Data row column
renumbered_cell number (Cell.Ack o row column) = Cell.Ack (number o) row column

abbrev pub renumbered_work : (ℕ → ℕ) → Work → Work
renumbered_work number Work.Script = Work.Script
renumbered_work number (Work.Run o row) = Work.Run (number o) row

-- a batch has no acknowledgment, and the record that a run was made on has no number of an observer
abbrev pub renumbered_declaration : (ℕ → ℕ) → Declared → Declared
renumbered_declaration number (Declared.Script batch) = Declared.Script batch
renumbered_declaration number (Declared.Run o run) = Declared.Run (number o) run

abbrev pub renumbered_step : (ℕ → ℕ) → Step → Step
renumbered_step number (Step.Begin work) = Step.Begin (renumbered_work number work)
renumbered_step number (Step.Read s x) = Step.Read s (renumbered_cell number x)
renumbered_step number (Step.ReadAt s x t) = Step.ReadAt s (renumbered_cell number x) t
renumbered_step number (Step.Declare s what) = Step.Declare s (renumbered_declaration number what)
renumbered_step number (Step.Prewrite s x) = Step.Prewrite s (renumbered_cell number x)
renumbered_step number (Step.Stamp s) = Step.Stamp s
renumbered_step number (Step.CommitPrimary s) = Step.CommitPrimary s
renumbered_step number (Step.CommitSecondary s x) = Step.CommitSecondary s (renumbered_cell number x)
renumbered_step number (Step.Settle x) = Step.Settle (renumbered_cell number x)
renumbered_step number (Step.Clear x) = Step.Clear (renumbered_cell number x)
renumbered_step number (Step.NextMark after) = Step.NextMark (option_map (renumbered_cell number) after)
renumbered_step number (Step.Sweep x) = Step.Sweep (renumbered_cell number x)

-- the primary of a lock may be an acknowledgment
abbrev pub renumbered_answer : (ℕ → ℕ) → Answer → Answer
renumbered_answer number (Answer.Locked start primary) = Answer.Locked start (renumbered_cell number primary)
renumbered_answer number (Answer.Marked x) = Answer.Marked (renumbered_cell number x)
renumbered_answer number answer = answer

abbrev pub renumbered_entry : (ℕ → ℕ) → Entry → Entry
renumbered_entry number e = record e { step = renumbered_step number e.step; answer = renumbered_answer number e.answer }

abbrev pub renumbered_journal : (ℕ → ℕ) → List Entry → List Entry
renumbered_journal number journal = map_list (renumbered_entry number) journal

abbrev pub renumbered_read : (ℕ → ℕ) → RecordedRead → RecordedRead
renumbered_read number r = record r { cell = renumbered_cell number r.cell; answer = renumbered_answer number r.answer }

abbrev pub renumbered_writes : (ℕ → ℕ) → Writes → Writes
renumbered_writes number writes = map_list (λ w. (renumbered_cell number w.0, w.1)) writes

abbrev pub renumbered_transaction : (ℕ → ℕ) → TransactionOf → TransactionOf
renumbered_transaction number t = record t {
  work = renumbered_work number t.work;
  reads = map_list (renumbered_read number) t.reads;
  declared = renumbered_writes number t.declared;
  prewritten = map_list (renumbered_cell number) t.prewritten;
}

-- ---- states

-- what stood on a cell stands on the renumbered one, and nothing stands on other cells
pub record EntriesAreRenumbered (number : ℕ → ℕ) (old new : Entries) : Type 0 where
  pub records : (x : Cell) (c : ℕ) → write_at new (renumbered_cell number x) c ≡ write_at old x c
  pub stored : (x : Cell) (s : ℕ) → data_at new (renumbered_cell number x) s ≡ data_at old x s
  pub locks : (x : Cell) (s : ℕ) → lock_at new (renumbered_cell number x) s ≡ option_map (renumbered_cell number) (lock_at old x s)
  pub no_more_records : (y : Cell) (c s : ℕ) → write_at new y c ≡ Some s → (x : Cell) × (y ≡ renumbered_cell number x)
  pub no_more_stored : (y : Cell) (s : ℕ) (k : Content) → data_at new y s ≡ Some k → (x : Cell) × (y ≡ renumbered_cell number x)
  pub no_more_locks : (y : Cell) (s : ℕ) (p : Cell) → lock_at new y s ≡ Some p → (x : Cell) × (y ≡ renumbered_cell number x)

-- under each start is the same transaction, renumbered
abbrev pub TransactionsAreRenumbered : (ℕ → ℕ) → Transactions → Transactions → Type 0
TransactionsAreRenumbered number old new = (s : ℕ) → map.get new s ≡ option_map (renumbered_transaction number) (map.get old s)

-- the same table with its observers under the new numbers, and with any marks
pub record IsRenumbered (number : ℕ → ℕ) (old new : StateOf) : Type 0 where
  pub entries : EntriesAreRenumbered number old.entries new.entries
  pub transactions : TransactionsAreRenumbered number old.transactions new.transactions
  pub observers : AreNumberedBy number old.observers new.observers
  pub clock : new.clock ≡ old.clock
  pub seats : new.seats ≡ old.seats

-- A table whose observers have other numbers could have done the same: the renumbered journal, but for its steps of marks, is one
-- of a table that was opened with the new list.
abbrev pub JournalsMayBeRenumbered : Type 0
JournalsMayBeRenumbered =
    (number : ℕ → ℕ) (observers others : List ObserverOf) (seats clock : ℕ) (journal : List Entry) (old : StateOf) → IsOneToOne number → AreNumberedBy number observers others
    → IsLegal observers seats clock journal old → (new : StateOf) × IsRenumbered number old new × IsLegalButMarks others seats clock (renumbered_journal number journal) new

-- where the old table is quiet so is the new one, with the marks of the old, which are none
abbrev pub RenumberedAreQuiet : Type 0
RenumberedAreQuiet = (number : ℕ → ℕ) (old new : StateOf) → IsRenumbered number old new → IsQuiet old → IsQuiet (record new { marks = old.marks })
