-- The laws of the table's steps and of legal journals, each in one sentence over definitions of what holds. The functions of
-- `laws.rt` promise them, one each.
use Rattle.std.specs.Prelude.{ℕ, ◌<◌, ◌^◌, List}
use Rattle.pb_history.specs.Words.{ObserverOf, Step, Answer, StateOf, opening, CanAnswer, TableStep, step_reasons}
use Rattle.pb_history.specs.declared.entry.Entry.{Entry}
use Rattle.pb_history.specs.Journals.{OfLegal}
use Rattle.pb_history.specs.History.{TellsHistory}
use Rattle.pb_history.specs.Sound.{IsSoundTable, KeepsData}
use Rattle.pb_history.specs.ReadsTold.{TellsReads}
use Rattle.pb_history.specs.RunsTold.{TellsRuns}
use Rattle.pb_history.specs.Timestamps.{timestamps, TellsTimestamps}
use Rattle.pb_history.specs.SoundJournals.{TellsSoundness}
use Rattle.pb_history.specs.CommitOrder.{TellsCommitOrder}
use Rattle.pb_history.specs.SnapshotsTold.{TellsSnapshots}
use Rattle.pb_history.specs.AcknowledgedTold.{TellsAcknowledged}
use Rattle.pb_history.specs.WritersTold.{TellsWriters}
use Rattle.pb_history.specs.ScriptsTold.{TellsScripts}
use Rattle.pb_history.specs.RecordsTold.{TellsRecords}
use Rattle.pb_history.specs.TransactionsTold.{TellsTransactions}
use Rattle.pb_history.specs.RunCounts.{TellsRunCounts}
use Rattle.pb_history.specs.MarksTold.{TellsMarks}
use Rattle.pb_history.specs.Handled.{TellsOneHandler, TellsHandlers, TellsQuiet}
use Rattle.pb_history.specs.LastGiven.{IsLastGiven}
use Rattle.pb_history.specs.Outcomes.{AreSame}
use Rattle.pb_history.specs.Progress.{TellsFirstMark, TellsUnmarked}
use Rattle.pb_history.specs.Refusals.{RiseAbove}

-- a step from a sound table leaves a sound one
abbrev pub StepsKeepSound : Type 0
StepsKeepSound = (old : StateOf) (seat : ℕ) (step : Step) (answer : Answer) (new : StateOf) → IsSoundTable old → TableStep old seat step answer new → IsSoundTable new

-- a table as opened is sound, where its clock has 64 bits
abbrev pub OpeningIsSound : Type 0
OpeningIsSound = (observers : List ObserverOf) (seats clock : ℕ) → clock < 2 ^ 64 → IsSoundTable (opening observers seats clock)

-- what stands in a sound table has its data
abbrev pub SoundHasData : Type 0
SoundHasData = (state : StateOf) → IsSoundTable state → KeepsData state

-- the state records the journal's committed transactions, and its declarations
abbrev pub HistoriesAreTold : Type 0
HistoriesAreTold = OfLegal (λ _ _ _ journal state. TellsHistory journal state)

-- each read returns what the table held when it was made
abbrev pub ReadsAreTold : Type 0
ReadsAreTold = OfLegal (λ observers seats clock journal _. TellsReads observers seats clock journal)

-- each committed run wrote what its program means on what a snapshot had
abbrev pub RunsAreTold : Type 0
RunsAreTold = OfLegal (λ _ _ _ journal state. TellsRuns journal state)

-- starts and commits rise in the order in which they were given out
abbrev pub TimestampsRise : Type 0
TimestampsRise = OfLegal (λ _ _ clock journal state. TellsTimestamps clock journal state)

-- a report may count an observer's committed runs by the entries that began them
abbrev pub RunsAreCounted : Type 0
RunsAreCounted = OfLegal (λ _ _ _ journal state. TellsRunCounts journal state)

-- the state is sound, and was after each entry
abbrev pub JournalsAreSound : Type 0
JournalsAreSound = OfLegal (λ observers seats clock journal state. TellsSoundness observers seats clock journal state)

-- a transaction that begins after a commit was answered has it in its snapshot
abbrev pub CommitsAreOrdered : Type 0
CommitsAreOrdered = OfLegal (λ _ _ _ journal state. TellsCommitOrder journal state)

-- each read returns what a snapshot of the whole history has, whatever is committed later
abbrev pub ReadsTellSnapshots : Type 0
ReadsTellSnapshots = OfLegal (λ _ _ _ journal state. TellsSnapshots journal state)

-- no run reads an acknowledgment of a time after its own start
abbrev pub AcknowledgedIsEarlier : Type 0
AcknowledgedIsEarlier = OfLegal (λ _ _ _ journal _. TellsAcknowledged journal)

-- two committed writers of a cell don't overlap
abbrev pub WritersAreApart : Type 0
WritersAreApart = OfLegal (λ _ _ _ journal state. TellsWriters journal state)

-- a script's committed transaction writes distinct data cells
abbrev pub ScriptsWriteBatches : Type 0
ScriptsWriteBatches = OfLegal (λ _ _ _ journal state. TellsScripts journal state)

-- locks and write records are those of the history, and no others
abbrev pub RecordsAreTold : Type 0
RecordsAreTold = OfLegal (λ _ _ _ journal state. TellsRecords journal state)

-- each transaction follows from the entries that name its start
abbrev pub TransactionsAreTold : Type 0
TransactionsAreTold = OfLegal (λ _ _ _ journal state. TellsTransactions journal state)

-- no step has an answer of another kind's
abbrev pub StepsCanAnswer : Type 0
StepsCanAnswer = (old : StateOf) (seat : ℕ) (step : Step) (answer : Answer) (new : StateOf) → TableStep old seat step answer new → CanAnswer step answer

-- a cell on which an observer isn't up to date has its mark
abbrev pub BehindIsMarked : Type 0
BehindIsMarked = OfLegal (λ _ _ _ _ state. TellsMarks state)

-- no change is handled by two committed runs of one observer
abbrev pub HandledAtMostOnce : Type 0
HandledAtMostOnce = OfLegal (λ _ _ _ journal state. TellsOneHandler journal state)

-- and none is left unhandled where neither mark nor lock stands
abbrev pub HandledWhenQuiet : Type 0
HandledWhenQuiet = OfLegal (λ _ _ _ journal state. TellsHandlers journal state)

-- of each step, in each state, the reasons to refuse it are listed by rising numbers, so that the first is the lowest
abbrev pub ReasonsRise : Type 0
ReasonsRise = (state : StateOf) (seat : ℕ) (step : Step) → RiseAbove 0 (step_reasons state seat step)

-- a report of the last timestamp given out is one of the clock
abbrev pub ClockIsLastGiven : Type 0
ClockIsLastGiven = OfLegal (λ _ _ clock journal state. IsLastGiven clock (timestamps journal) state.clock)

-- a pass goes past no mark
abbrev pub FirstMarksAreFound : Type 0
FirstMarksAreFound = (old : StateOf) (seat : ℕ) (step : Step) (answer : Answer) (new : StateOf) → TableStep old seat step answer new → TellsFirstMark old step answer

-- a mark goes once all observers are up to date, so that passes end
abbrev pub SweepsUnmark : Type 0
SweepsUnmark = (old : StateOf) (seat : ℕ) (step : Step) (answer : Answer) (new : StateOf) → TableStep old seat step answer new → TellsUnmarked old step new

-- a report's counts of marks and locks show whether it is quiet
abbrev pub QuietIsCounted : Type 0
QuietIsCounted = OfLegal (λ _ _ _ _ state. TellsQuiet state)

-- two answers of one step are one, and so are the states that it leaves
abbrev pub StepsHaveOneOutcome : Type 0
StepsHaveOneOutcome =
    (old : StateOf) (seat : ℕ) (step : Step) (a : Answer) (new : StateOf) (b : Answer) (other : StateOf)
    → IsSoundTable old → TableStep old seat step a new → TableStep old seat step b other → AreSame a new b other
