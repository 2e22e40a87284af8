-- A table that is kept over any number of generations: it is opened, takes steps, and where no lock stands on it it may begin anew with
-- a snapshot of itself, also with another list of observers, and with a mark on each cell that one that stays isn't up to date on. What holds
-- of one table's legal journal holds of the journal of all its generations.
use Rattle.std.specs.Prelude.{◌≡◌, ℕ, ◌<◌, ◌≤◌, true, false, List, [], ◌∷◌, ◌++◌, length, Option, Some, None, slice_get}
use Rattle.pb_generations.specs.Words.{Writes, Cell, Content, Revision, Row, ObserverOf, Entries, Marks, is_marked, IsNewestVersion, NoLock, data_at, last_timestamp, write_at, acknowledged_in, StateOf, Transactions, opening, TableStep, Answer, Step, Handles, IsQuiet, TellsOneHandler, Has, InHistory, IsEntry, IsSnapshot, Member, NoSnapshot, WritesTo, JournalLeads, WroteAt, TellsSnapshots, TellsTimestamps, Entry, Received, HasMoreObservers, IsMarkedBehind, ChangeOf, IsSomeChange, new_change, told, entries_by, Reaches, IsHeld, RunOf, fresh, next_of, watch_of}
use Rattle.pb_txn.specs.Changes as changes
use Rattle.pb_generations.specs.Chosen.{AreChosen, IsChosenSnapshot, chosen_state, new_number}
use Rattle.pb_generations.specs.LeftOut.{AnswersKnown, LacksOthers, NamesKnown, is_known_cell}
use Rattle.pb_generations.specs.Mirrored.{IsMirroredBy, IsUnlocked, IsPartOf, carried, unmarked}
use Rattle.pb_generations.specs.Renumbered.{renumbered_journal}
use Rattle.pb_generations.specs.SameButMarks.{IsLegalButMarks}
use Rattle.pb_generations.specs.Snapshots.{AreEnded, IsSnapshotOf}

-- ---- the steps of jobs

-- the transaction of start s read an observer's acknowledgment of x, and was answered that t is acknowledged there; 0 stands for
-- no acknowledgment
pub record ReadsAcknowledged (observers : List ObserverOf) (journal : List Entry) (s : ℕ) (x : Cell) (t : ℕ) : Type 0 where
  pub o : ℕ
  pub row : Row
  pub observer : ObserverOf
  pub observer_is : slice_get observers o ≡ Some observer
  pub cell : x ≡ Cell.Data row observer.column
  pub seat : ℕ
  pub answer : Answer
  pub read : IsEntry journal seat (Step.Read (record { 0 = s }) (Cell.Ack o row observer.column)) answer
  pub held : IsHeld answer
  pub acknowledged : (acknowledged_in answer).0 ≡ t
  pub some : 0 < t

-- a step that reads a cell at a timestamp reads it at one that its transaction has read as acknowledged; any other step is one
abbrev pub IsStepOfJob : List ObserverOf → List Entry → Step → Type 0
IsStepOfJob observers journal (Step.ReadAt s x t) = ReadsAcknowledged observers journal s.0 x t.0
IsStepOfJob observers journal _ = Unit {0}

-- what a run of an observer asks next is such a step, where the journal has what the run was answered
abbrev pub RunsAskSteps : Type 0
RunsAskSteps =
    (observers : List ObserverOf) (journal : List Entry) (seat o : ℕ) (observer : ObserverOf) (row : Row) (said : List Received) (k : RunOf) (step : Step) → slice_get observers o ≡ Some observer
    → Reaches (fresh (watch_of o observer row)) said k → ((r : Received) → Has said r → IsEntry journal seat r.step r.answer) → next_of k ≡ Some step → IsStepOfJob observers journal step

-- and so is what a change asks next
abbrev pub ChangesAskSteps : Type 0
ChangesAskSteps = (observers : List ObserverOf) (journal : List Entry) (j : ChangeOf) (step : Step) → changes.next_of j ≡ Some step → IsStepOfJob observers journal step

-- ---- the tables

-- A table is kept over generations: opened with these seats and this clock, it has these observers; those stand after them in its
-- history, for runs of observers that are gone; the last generation began at c; this is the journal of them all, with the numbers
-- that observers have by now; and this the table as it is. At each change of observers the whole old list is put before those of
-- earlier changes. So one that stays stands there too, under a number of which the journal has no run.
pub data IsKeptTable : List ObserverOf → List ObserverOf → ℕ → ℕ → ℕ → List Entry → StateOf → Type 0 where
  opened : (observers : List ObserverOf) (seats clock : ℕ) → clock < last_timestamp → IsKeptTable observers [] seats clock clock [] (opening observers seats clock)
  stepped : (observers gone : List ObserverOf) (seats clock c : ℕ) (journal : List Entry) (old : StateOf) (e : Entry) (new : StateOf) → IsKeptTable observers gone seats clock c journal old
      → IsStepOfJob observers journal e.step → NamesKnown (length observers) e.step → TableStep old e.seat e.step e.answer new → IsKeptTable observers gone seats clock c (journal ++ e ∷ []) new
  anew : (observers gone : List ObserverOf) (seats clock c : ℕ) (journal : List Entry) (old : StateOf) (f : Entries) (ts : Transactions) (new : StateOf) → IsKeptTable observers gone seats clock c journal old
      → IsUnlocked old → old.clock < last_timestamp → IsSnapshotOf old f → AreEnded old ts → IsMarkedBehind (unmarked (carried old f ts)) new → IsKeptTable observers gone seats clock old.clock journal new
  -- the observers at these places stay, in this order, and after them come new ones, for which each cell of theirs that has a write
  -- record is marked; in the journal all have their new numbers. One that doesn't stay may be among the new ones.
  chosen : (observers gone : List ObserverOf) (seats clock c : ℕ) (journal : List Entry) (old : StateOf) (places : List ℕ) (front added : List ObserverOf) (f : Entries) (ts : Transactions) (between new : StateOf)
      → IsKeptTable observers gone seats clock c journal old → IsUnlocked old → old.clock < last_timestamp
      → AreChosen places observers front → IsChosenSnapshot places old f → AreEnded old ts → IsMarkedBehind (unmarked (chosen_state old front f ts)) between → HasMoreObservers added between new
      → IsKeptTable (front ++ added) (observers ++ gone) seats clock old.clock (renumbered_journal (new_number places (length (front ++ added))) journal) new

-- a table that is kept stays one after such a conversation of a seat
abbrev pub KeepsTables : (List ObserverOf → List Received → Type 0) → Type 0
KeepsTables Said =
    (observers gone : List ObserverOf) (seats clock c : ℕ) (journal : List Entry) (old new : StateOf) → IsKeptTable observers gone seats clock c journal old
    → (seat : ℕ) (said : List Received) → Said observers said → JournalLeads old (entries_by seat said) new → IsKeptTable observers gone seats clock c (journal ++ entries_by seat said) new

-- so after a run of an observer, as far as that went
abbrev pub RunsKeepTables : Type 0
RunsKeepTables = KeepsTables (λ observers said. (o : ℕ) × (observer : ObserverOf) × (row : Row) × (k : RunOf) × (slice_get observers o ≡ Some observer) × Reaches (fresh (watch_of o observer row)) said k)

-- after a change, as far as that went
abbrev pub ChangesKeepTables : Type 0
ChangesKeepTables = KeepsTables (λ observers said. (batch : Writes) × (k : ChangeOf) × changes.Converses (new_change batch) said k)

-- after a whole change, by its conversation alone
abbrev pub WholeChangesKeepTables : Type 0
WholeChangesKeepTables = KeepsTables (λ observers said. (batch : Writes) × IsSomeChange batch said)

-- and after the next mark was asked for
abbrev pub MarksKeepTables : Type 0
MarksKeepTables = KeepsTables (λ observers said. (after : Option Cell) × (answer : Answer) × (said ≡ told (Step.NextMark after) answer ∷ []))

-- ---- what holds of them

-- what holds of each table that is kept, with the journal of all its generations
abbrev pub OfKept : (List ObserverOf → List ObserverOf → ℕ → ℕ → ℕ → List Entry → StateOf → Type 0) → Type 0
OfKept Holds =
    (observers gone : List ObserverOf) (seats clock c : ℕ) (journal : List Entry) (now : StateOf) → IsKeptTable observers gone seats clock c journal now → Holds observers gone seats clock c journal now

-- where a cell of an observer's column isn't marked, each of its write records has an acknowledgment by a run that began no earlier
abbrev pub AreCovered : List ObserverOf → Marks → Entries → Type 0
AreCovered observers marks e =
    (o : ℕ) (observer : ObserverOf) → slice_get observers o ≡ Some observer → (row : Row) → is_marked marks (Cell.Data row observer.column) ≡ false
    → (c u : ℕ) → write_at e (Cell.Data row observer.column) c ≡ Some u → (d : ℕ) × (s : ℕ) × (write_at e (Cell.Ack o row observer.column) d ≡ Some s) × (c ≤ s)

-- But for steps of marks, the journal is a legal one of a whole table, which has also the observers that are gone. Without these, and
-- but for its marks, what is there now serves for it, and has nothing of its own; and there no change is left unmarked that isn't
-- acknowledged.
pub record StandsForAll (observers gone : List ObserverOf) (seats clock c : ℕ) (journal : List Entry) (now : StateOf) : Type 0 where
  pub whole : StateOf
  pub legal : IsLegalButMarks (observers ++ gone) seats clock journal whole
  pub lean : StateOf
  pub lacks : LacksOthers c gone whole lean
  pub mirrors : IsMirroredBy c lean now.entries now.transactions
  pub within : IsPartOf lean.entries now.entries
  pub now_is : now ≡ carried lean now.entries now.transactions
  pub observers_are : now.observers ≡ observers
  pub covered : AreCovered observers now.marks whole.entries

-- the journal of all generations is one of a whole table
abbrev pub KeptTablesAreWhole : Type 0
KeptTablesAreWhole = OfKept StandsForAll

-- no lock that a table which is kept answers to the next step of a job has an acknowledgment of an observer that is gone as its primary
abbrev pub KeptAnswersAreKnown : Type 0
KeptAnswersAreKnown =
    OfKept (λ observers gone seats clock c journal now. (seat : ℕ) (step : Step) (answer : Answer) (new : StateOf) → IsStepOfJob observers journal step → NamesKnown (length observers) step → TableStep now seat step answer new
    → AnswersKnown (length observers) answer)

-- the table with all observers of its history: also those that are gone
abbrev pub with_gone : List ObserverOf → StateOf → StateOf
with_gone gone now = record now { observers = now.observers ++ gone }

-- Over all generations, two committed runs of an observer that handle a change are one, also where the observer is gone. An observer
-- that was gone and came back is another one: it has another number, and handles all once more.
abbrev pub HandledOnceInAll : Type 0
HandledOnceInAll = OfKept (λ _ gone _ _ _ journal now. TellsOneHandler journal (with_gone gone now))

-- Where the table is quiet now, each committed change of any generation, also one by a run of an observer that is gone, is handled by
-- a committed run of each observer that it has, whenever it got that.
abbrev pub HandledWhenQuietInAll : Type 0
HandledWhenQuietInAll =
    OfKept (λ observers gone _ _ _ journal now. IsQuiet now → (u : Member) → InHistory (observers ++ gone) journal u
    → (o : ℕ) (observer : ObserverOf) → slice_get observers o ≡ Some observer
    → (row : Row) (content : Content) → WritesTo u (Cell.Data row observer.column) content
    → (m : Member) × InHistory (observers ++ gone) journal m × Handles (observers ++ gone) journal m o row u.commit)

-- each read of any generation returns its snapshot of the history of them all
abbrev pub SnapshotsInAll : Type 0
SnapshotsInAll = OfKept (λ _ gone _ _ _ journal now. TellsSnapshots journal (with_gone gone now))

-- the newest write to x of a history, or that there is none
abbrev pub IsNewestWrite : List ObserverOf → List Entry → Cell → Option Revision → Type 0
IsNewestWrite observers journal x None = NoSnapshot observers journal last_timestamp x
IsNewestWrite observers journal x (Some v) = IsSnapshot observers journal last_timestamp x v.start.0 v.commit.0 v.content

-- what is newest of an unlocked cell is the newest write of all generations, but for acknowledgments of observers that are gone
abbrev pub NewestInAll : Type 0
NewestInAll =
    OfKept (λ observers gone _ _ _ journal now. (x : Cell) (v : Option Revision) → is_known_cell (length observers) x ≡ true → NoLock now.entries x → IsNewestVersion now.entries x v
    → IsNewestWrite (observers ++ gone) journal x v)

-- the timestamps of all generations rise, from above the clock as opened up to that of the table
abbrev pub TimestampsRiseInAll : Type 0
TimestampsRiseInAll = OfKept (λ _ gone _ clock _ journal now. TellsTimestamps clock journal (with_gone gone now))

-- entries have each write to x of a commit above c, with its content, and no other write record there
pub record HasWritesAbove (observers : List ObserverOf) (c : ℕ) (journal : List Entry) (e : Entries) (x : Cell) : Type 0 where
  pub each : (m : Member) (k : Content) → InHistory observers journal m → WritesTo m x k → c < m.commit → (write_at e x m.commit ≡ Some m.start) × (data_at e x m.start ≡ Some k)
  pub only : (d s : ℕ) → c < d → write_at e x d ≡ Some s → WroteAt observers journal x d s

-- of an unlocked cell, if it isn't an acknowledgment of one that is gone, the table has each write since its last generation began
abbrev pub LaterWritesInAll : Type 0
LaterWritesInAll =
    OfKept (λ observers gone _ _ c journal now. (x : Cell) → is_known_cell (length observers) x ≡ true → NoLock now.entries x → HasWritesAbove (observers ++ gone) c journal now.entries x)
