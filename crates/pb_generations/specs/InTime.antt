-- The steps of a table of one seat that is kept over generations come in their time: each step of a run of an observer, of a
-- change, and each that asks for the next mark, is refused only where no timestamp is left.
use Rattle.std.specs.Prelude.{◌≡◌, ℕ, ◌<◌, ◌^◌, List, Option, Some, slice_get}
use Rattle.pb_generations.specs.Words.{Writes, Cell, Row, Reason, ObserverOf, Entries, StateOf, Transactions, step_reason, Step, JournalLeads, Entry, Received, ChangeOf, Converses, new_change, entries_by, Reaches, RunOf, fresh, next_of, watch_of}
use Rattle.pb_txn.specs.Changes as changes
use Rattle.pb_generations.specs.KeptTables.{IsKeptTable}
use Rattle.pb_generations.specs.LateSteps.{NamesLate}
use Rattle.pb_generations.specs.Mirrored.{IsMirroredBy, carried}

-- a carried table refuses a step that names no transaction of before for the same reason as the whole one, or both allow it
abbrev pub RefusalsCarryOver : Type 0
RefusalsCarryOver =
    (c : ℕ) (whole : StateOf) (e : Entries) (ts : Transactions) (seat : ℕ) (step : Step) → IsMirroredBy c whole e ts → NamesLate c step
    → step_reason (carried whole e ts) seat step ≡ step_reason whole seat step

-- the next step of a run of one of the observers that the table has, on a row and a column that a record has room for
abbrev pub RunsAreInTime : Type 0
RunsAreInTime =
    (observers gone : List ObserverOf) (clock c : ℕ) (before said : List Received) (old new : StateOf) → IsKeptTable observers gone 1 clock c (entries_by 0 before) old → JournalLeads old (entries_by 0 said) new
    → (o : ℕ) (observer : ObserverOf) (row : Row) (job : RunOf) (step : Step) (why : Reason) → slice_get observers o ≡ Some observer → row.0 < 2 ^ 64 → observer.column < 2 ^ 64
    → Reaches (fresh (watch_of o observer row)) said job → next_of job ≡ Some step → step_reason new 0 step ≡ Some why → why ≡ Reason.OutOfTimestamps

-- the next step of a change
abbrev pub ChangesAreInTime : Type 0
ChangesAreInTime =
    (observers gone : List ObserverOf) (clock c : ℕ) (before said : List Received) (old new : StateOf) → IsKeptTable observers gone 1 clock c (entries_by 0 before) old → JournalLeads old (entries_by 0 said) new
    → (batch : Writes) (job : ChangeOf) (step : Step) (why : Reason) → Converses (new_change batch) said job → changes.next_of job ≡ Some step → step_reason new 0 step ≡ Some why → why ≡ Reason.OutOfTimestamps

-- the next mark may be asked for at any time
abbrev pub MarksAreInTime : Type 0
MarksAreInTime =
    (observers gone : List ObserverOf) (clock c : ℕ) (journal : List Entry) (now : StateOf) → IsKeptTable observers gone 1 clock c journal now
    → (after : Option Cell) (why : Reason) → step_reason now 0 (Step.NextMark after) ≡ Some why → ⊥
