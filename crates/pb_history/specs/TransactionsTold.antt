-- What a legal journal shows of each transaction: all that the table keeps of it follows from the entries that name its start,
-- which are one seat's.
use Rattle.std.specs.Prelude.{◌≡◌, ℕ, Bool, true, false, ◌==◌, List, [], ◌∷◌, ◌++◌, Option, Some, None, option_map}
use Rattle.std.specs.List.{filter, list_any}
use Rattle.std.specs.FinMap as map
use Rattle.pb_history.specs.Words.{Phase, Step, Answer, ObserverOf, StateOf, TransactionOf, new_transaction, cells_of, with_read}
use Rattle.pb_history.specs.declared.entry.Entry.{Entry}
use Rattle.pb_history.specs.History.{Has}

-- a step names a start, and a begin the one that it is answered
abbrev pub names_start : ℕ → Step → Answer → Bool
names_start s (Step.Begin work) (Answer.At start) = s == start.0
names_start s (Step.Read start x) answer = s == start.0
names_start s (Step.ReadAt start x t) answer = s == start.0
names_start s (Step.Declare start what) answer = s == start.0
names_start s (Step.Prewrite start x) answer = s == start.0
names_start s (Step.Stamp start) answer = s == start.0
names_start s (Step.CommitPrimary start) answer = s == start.0
names_start s (Step.CommitSecondary start x) answer = s == start.0
names_start s _ answer = false

-- the entries that name a start, in order
abbrev pub entries_naming : ℕ → List Entry → List Entry
entries_naming s journal = filter (λ e. names_start s e.step e.answer) journal

-- the phase of a stamped transaction that is committed
abbrev pub committed_phase : Phase → Phase
committed_phase (Phase.Stamped c) = Phase.Committed c
committed_phase phase = phase

-- what a transaction is after an entry that names its start
abbrev pub transaction_after : List ObserverOf → ℕ → Step → Answer → Option TransactionOf → Option TransactionOf
transaction_after observers seat (Step.Begin work) (Answer.At s) t = Some (new_transaction seat work)
transaction_after observers seat (Step.Read s x) (Answer.Found start commit content) t = option_map (λ (u : TransactionOf). with_read u x None (Answer.Found start commit content)) t
transaction_after observers seat (Step.Read s x) Answer.Absent t = option_map (λ (u : TransactionOf). with_read u x None Answer.Absent) t
transaction_after observers seat (Step.ReadAt s x at) (Answer.Found start commit content) t = option_map (λ (u : TransactionOf). with_read u x (Some at) (Answer.Found start commit content)) t
transaction_after observers seat (Step.ReadAt s x at) Answer.Absent t = option_map (λ (u : TransactionOf). with_read u x (Some at) Answer.Absent) t
transaction_after observers seat (Step.Declare s what) Answer.Done t = option_map (λ (u : TransactionOf). record u { phase = Phase.Declared; declared = cells_of observers u.work s.0 what }) t
transaction_after observers seat (Step.Prewrite s x) Answer.Done t = option_map (λ (u : TransactionOf). record u { prewritten = u.prewritten ++ x ∷ [] }) t
transaction_after observers seat (Step.Prewrite s x) Answer.Conflict t = option_map (λ (u : TransactionOf). record u { phase = Phase.Failed }) t
transaction_after observers seat (Step.Stamp s) (Answer.At c) t = option_map (λ (u : TransactionOf). record u { phase = Phase.Stamped c }) t
transaction_after observers seat (Step.CommitPrimary s) Answer.Committed t = option_map (λ (u : TransactionOf). record u { phase = committed_phase u.phase }) t
transaction_after observers seat (Step.CommitPrimary s) Answer.Lost t = option_map (λ (u : TransactionOf). record u { phase = Phase.Failed }) t
transaction_after observers seat _ _ t = t

-- what a transaction is after entries that name its start, one after another
abbrev pub transaction_from : List ObserverOf → Option TransactionOf → List Entry → Option TransactionOf
transaction_from observers t [] = t
transaction_from observers t (e ∷ es) = transaction_from observers (transaction_after observers e.seat e.step e.answer t) es

-- from the first of them on
abbrev pub transaction_by : List ObserverOf → List Entry → Option TransactionOf
transaction_by observers entries = transaction_from observers None entries

-- the step begins a transaction
abbrev pub is_begin : Step → Bool
is_begin (Step.Begin work) = true
is_begin _ = false

-- the first of them begins the transaction, and no later one does
abbrev pub BeginsOnce : List Entry → Type 0
BeginsOnce [] = Unit {0}
BeginsOnce (e ∷ es) = (is_begin e.step ≡ true) × (list_any (λ d. is_begin d.step) es ≡ false)

-- the state has that transaction, or none where no entry names the start, and the entries that do are one seat's
pub record TellsTransactions (journal : List Entry) (state : StateOf) : Type 0 where
  pub begins : (s : ℕ) → BeginsOnce (entries_naming s journal)
  pub one_seat : (s : ℕ) (d e : Entry) → Has (entries_naming s journal) d → Has (entries_naming s journal) e → d.seat ≡ e.seat
  pub each : (s : ℕ) → map.get state.transactions s ≡ transaction_by state.observers (entries_naming s journal)
