-- One pass along a journal, with a cursor in each seat's list: what `finish` goes by on its way, and no caller sees.
use Rattle.std.specs.Prelude.{◌≡◌, ◌≢◌, ℕ, ◌<◌, List, length, Some, slice_get, slice_index_or}
use Rattle.pb_history.specs.declared.entry.Entry.{Entry}
use Rattle.pb_history.specs.declared.entry.Received.{Received}
use Rattle.pb_core.specs.Calls.{SeatOf}

-- what a seat received by an entry
abbrev pub told_by : Entry → Received
told_by e = record { step = e.step; answer = e.answer }

-- each seat's number is below this
abbrev pub AreNumberedBelow : ℕ → List SeatOf → Type 0
AreNumberedBelow count seats = (k : ℕ) (d : SeatOf) → k < length seats → (slice_index_or seats k d).number < count

-- by the number of each seat, its place among these
abbrev pub ArePlaces : List ℕ → List SeatOf → Type 0
ArePlaces places seats = (k : ℕ) (d : SeatOf) → k < length seats → slice_get places (slice_index_or seats k d).number ≡ Some k

-- the seat of this number stands at this place
pub record IsAt (seats : List SeatOf) (number place : ℕ) : Type 0 where
  pub within : place < length seats
  pub numbered : (d : SeatOf) → (slice_index_or seats place d).number ≡ number

-- no seat has this number
abbrev pub HasNoSeat : List SeatOf → ℕ → Type 0
HasNoSeat seats number = (k : ℕ) (d : SeatOf) → k < length seats → (slice_index_or seats k d).number ≢ number

-- each cursor has come to the end of its seat's list
abbrev pub AreAtEnd : List SeatOf → List ℕ → Type 0
AreAtEnd seats cursors = (k : ℕ) (d : SeatOf) → k < length seats → slice_index_or cursors k 0 ≡ length (slice_index_or seats k d).received
