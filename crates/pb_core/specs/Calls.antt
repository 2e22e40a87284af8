-- What a call does, and what table and seats are to those who call. `Shared::open` and `Shared::call` promise it, and
-- whoever shares a table promises what its calls were.
use Rattle.std.specs.Prelude.{◌≡◌, ℕ, ◌+◌, ◌<◌, Bool, ◌==◌, nat_lt, if◌then◌else◌, List, [], ◌∷◌, ◌++◌, length, Option, Some, None, slice_index_or}
use Rattle.pb_core.specs.Words.{Reason, reason_code, Step, Answer, StateOf, step_reason, TableStep, Entry, Received, entries_of}

-- the table, as its callers see it: `opened` is the clock as opened
pub record SharedOf : Type 0 where
  pub journal : List Entry
  pub state : StateOf
  pub opened : ℕ
  pub limit : ℕ
  -- how many tablets the table has
  pub places : ℕ

-- a seat, as its owner sees it
pub record SeatOf : Type 0 where
  pub number : ℕ
  pub received : List Received

-- 44 where the journal is full, unless a lower number applies
abbrev pub or_full : Option Reason → Bool → Option Reason
or_full None full = if full then Some Reason.JournalFull else None
or_full (Some r) full = if full then (if nat_lt (reason_code Reason.JournalFull) (reason_code r) then Some Reason.JournalFull else Some r) else Some r

-- why a call is refused, if it is: the reason with the lowest number
abbrev pub call_reason : SharedOf → ℕ → Step → Option Reason
call_reason s seat step = or_full (step_reason s.state seat step) (length s.journal == s.limit)

-- One step was taken, and is kept in the journal and in the seat's list. The observers and the number of seats stay.
pub record Calls (old : SharedOf) (seat : SeatOf) (step : Step) (answer : Answer) (new : SharedOf) (told : SeatOf) : Type 0 where
  pub machine : TableStep old.state seat.number step answer new.state
  pub journal : new.journal ≡ old.journal ++ record { seat = seat.number; step = step; answer = answer } ∷ []
  pub opened : new.opened ≡ old.opened
  pub limit : new.limit ≡ old.limit
  pub places : new.places ≡ old.places
  pub seats : new.state.seats ≡ old.state.seats
  pub observers : new.state.observers ≡ old.state.observers
  pub number : told.number ≡ seat.number
  pub received : told.received ≡ seat.received ++ record { step = step; answer = answer } ∷ []

-- as many seats as said, numbered from 0, with empty lists
pub record IsFresh (count : ℕ) (seats : List SeatOf) : Type 0 where
  pub counted : length seats ≡ count
  pub each : (k : ℕ) (d : SeatOf) → k < length seats → slice_index_or seats k d ≡ record { number = k; received = [] }

-- as many books as said, all empty
pub record IsBlank (count : ℕ) (books : List (List ℕ)) : Type 0 where
  pub counted : length books ≡ count
  pub each : (k : ℕ) (d : List ℕ) → k < length books → slice_index_or books k d ≡ []

-- all seats of the table, in order: numbered from `from`, each list the journal's entries of that seat
abbrev pub AreSeatsFrom : ℕ → List Entry → List SeatOf → Type 0
AreSeatsFrom from journal [] = Unit {0}
AreSeatsFrom from journal (seat ∷ seats) = (seat.number ≡ from) × (seat.received ≡ entries_of from journal) × AreSeatsFrom (from + 1) journal seats

-- every seat of the table has exactly the journal's entries of its number
pub record AreSeats (shared : SharedOf) (seats : List SeatOf) : Type 0 where
  pub counted : length seats ≡ shared.state.seats
  pub each : AreSeatsFrom 0 shared.journal seats
