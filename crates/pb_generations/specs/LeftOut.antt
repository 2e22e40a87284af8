-- A table without the last of its observers, and without their acknowledgments. No step that names none of these shows a
-- difference: what a transaction reads, writes and finds locked are data cells, and acknowledgments of its own observer. So a table
-- may leave out the acknowledgments of observers that are gone.
use Rattle.std.specs.Prelude.{◌≡◌, ℕ, ◌<◌, Bool, true, false, nat_lt, List, ◌++◌, length, Some, None}
use Rattle.std.specs.List.{list_all}
use Rattle.std.specs.FinMap as map
use Rattle.pb_generations.specs.Words.{Writes, Cell, ObserverOf, Entries, Marks, NoLock, last_timestamp, lock_at, StateOf, TransactionOf, Transactions, TableStep, step_reason, Answer, Declared, Step, Work, IsLegal, IsSoundTable, Entry}
use Rattle.pb_generations.specs.LateSteps.{NamesLate}
use Rattle.pb_generations.specs.Mirrored.{IsMirroredBy}
use Rattle.pb_generations.specs.SameButMarks.{is_of_marks}
use Rattle.pb_generations.specs.Snapshots.{ServeAcknowledged, ShowsViewed}

-- ---- what is left out

-- a data cell, or an acknowledgment of one of the first n observers
abbrev pub is_known_cell : ℕ → Cell → Bool
is_known_cell n (Cell.Data row column) = true
is_known_cell n (Cell.Ack o row column) = nat_lt o n

-- what stands on such cells
abbrev pub known_entries : ℕ → Entries → Entries
known_entries n e = map.retain_keys e (λ slot. is_known_cell n slot.cell)

-- each of these is a write to such a cell
abbrev pub are_known_writes : ℕ → Writes → Bool
are_known_writes n writes = list_all (λ w. is_known_cell n w.0) writes

-- the table with these observers alone, with what stands on their cells, and with these marks
abbrev pub without_others : List ObserverOf → StateOf → Marks → StateOf
without_others front whole marks = record whole { entries = known_entries (length front) whole.entries; observers = front; marks = marks }

-- The second table is the first without the observers that are gone, which stand at the end of its list, with any marks. No lock
-- on a known cell has an acknowledgment of theirs as its primary, no transaction that began after c declares to write one, and
-- each lock is of such a transaction.
pub record LacksOthers (c : ℕ) (gone : List ObserverOf) (whole lean : StateOf) : Type 0 where
  pub observers : whole.observers ≡ lean.observers ++ gone
  pub lean_is : lean ≡ without_others lean.observers whole lean.marks
  pub primaries : (x : Cell) (s : ℕ) (p : Cell) → is_known_cell (length lean.observers) x ≡ true → lock_at whole.entries x s ≡ Some p → is_known_cell (length lean.observers) p ≡ true
  pub declared : (s : ℕ) (t : TransactionOf) → c < s → map.get whole.transactions s ≡ Some t → are_known_writes (length lean.observers) t.declared ≡ true
  pub late : (x : Cell) (s : ℕ) (p : Cell) → lock_at whole.entries x s ≡ Some p → c < s

-- ---- the steps

-- the cell that the step names, or the observer whose run it begins or declares, is known
abbrev pub NamesKnown : ℕ → Step → Type 0
NamesKnown n (Step.Begin (Work.Run o row)) = o < n
NamesKnown n (Step.Read s x) = is_known_cell n x ≡ true
NamesKnown n (Step.ReadAt s x t) = is_known_cell n x ≡ true
NamesKnown n (Step.Declare s (Declared.Run o run)) = o < n
NamesKnown n (Step.Prewrite s x) = is_known_cell n x ≡ true
NamesKnown n (Step.CommitSecondary s x) = is_known_cell n x ≡ true
NamesKnown n (Step.Settle x) = is_known_cell n x ≡ true
NamesKnown n (Step.Clear x) = is_known_cell n x ≡ true
NamesKnown n _ = Unit {0}

-- the whole table takes the step too, with the same answer, and what the other one leaves is without the same observers
pub record GoesWithOthers (c : ℕ) (gone : List ObserverOf) (whole : StateOf) (seat : ℕ) (step : Step) (answer : Answer) (new : StateOf) : Type 0 where
  pub after : StateOf
  pub taken : TableStep whole seat step answer after
  pub lacks : LacksOthers c gone after new

-- a step that names known cells, and no transaction of before, is one of the whole table
abbrev pub OthersAreNeverMissed : Type 0
OthersAreNeverMissed =
    (c : ℕ) (gone : List ObserverOf) (whole lean new : StateOf) (seat : ℕ) (step : Step) (answer : Answer) → LacksOthers c gone whole lean → is_of_marks step ≡ false → NamesLate c step
    → NamesKnown (length lean.observers) step → TableStep lean seat step answer new → GoesWithOthers c gone whole seat step answer new

-- the primary of a lock that is answered
abbrev pub AnswersKnown : ℕ → Answer → Type 0
AnswersKnown n (Answer.Locked start primary) = is_known_cell n primary ≡ true
AnswersKnown n _ = Unit {0}

-- is known too, so that who is answered it may name it next
abbrev pub OthersAreNeverNamed : Type 0
OthersAreNeverNamed =
    (c : ℕ) (gone : List ObserverOf) (whole lean new : StateOf) (seat : ℕ) (step : Step) (answer : Answer) → LacksOthers c gone whole lean → NamesKnown (length lean.observers) step
    → TableStep lean seat step answer new → AnswersKnown (length lean.observers) answer

-- a step of marks leaves all else as it is
abbrev pub MarksMissNothing : Type 0
MarksMissNothing =
    (c : ℕ) (gone : List ObserverOf) (whole lean new : StateOf) (seat : ℕ) (step : Step) (answer : Answer) → LacksOthers c gone whole lean → is_of_marks step ≡ true
    → TableStep lean seat step answer new → LacksOthers c gone whole new

-- and a step that names known cells is refused for the same reason
abbrev pub SameRefusals : Type 0
SameRefusals =
    (c : ℕ) (gone : List ObserverOf) (whole lean : StateOf) (seat : ℕ) (step : Step) → LacksOthers c gone whole lean → NamesKnown (length lean.observers) step
    → step_reason lean seat step ≡ step_reason whole seat step

-- ---- the beginning

-- where no lock stands, the last observers of a table may be left out
abbrev pub OthersMayBeLeftOut : Type 0
OthersMayBeLeftOut =
    (front gone : List ObserverOf) (whole : StateOf) (marks : Marks) → IsSoundTable whole → ((x : Cell) → NoLock whole.entries x) → whole.observers ≡ front ++ gone
    → LacksOthers whole.clock gone whole (without_others front whole marks)

-- a table that mirrors itself does so without them
abbrev pub MirrorsWithoutOthers : Type 0
MirrorsWithoutOthers =
    (c : ℕ) (gone : List ObserverOf) (whole lean : StateOf) → LacksOthers c gone whole lean → IsMirroredBy c whole whole.entries whole.transactions → IsMirroredBy c lean lean.entries lean.transactions

-- and what shows all that may be viewed of it serves for it, if no lock stands in the table, and a legal journal led there
abbrev pub SnapshotsServeWithoutOthers : Type 0
SnapshotsServeWithoutOthers =
    (observers gone : List ObserverOf) (seats clock : ℕ) (journal : List Entry) (whole lean : StateOf) → IsLegal observers seats clock journal whole → ((x : Cell) → NoLock whole.entries x)
    → whole.clock < last_timestamp → LacksOthers whole.clock gone whole lean
    → (e : Entries) (ts : Transactions) → ShowsViewed lean e → ((s : ℕ) → lean.clock < s → map.get ts s ≡ None)
    → IsMirroredBy lean.clock lean e ts × ServeAcknowledged lean.observers lean.clock lean.entries e
