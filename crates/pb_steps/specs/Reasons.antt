-- Why a step is refused: the first reason that applies, of a list in which their numbers rise.
use Rattle.std.specs.Prelude.{◌≡◌, ℕ, Bool, true, not, ◌==◌, nat_lt, if◌then◌else◌, List, [], ◌∷◌, Option, Some, None}
use Rattle.std.specs.FinMap as map
use Rattle.pb_steps.specs.Words.{Reason}
use Rattle.pb_steps.specs.State.{StateOf, TransactionOf}
use Rattle.pb_steps.specs.Readings.{last_timestamp}

-- reasons with whether each applies
abbrev pub Reasons : Type 0
Reasons = List (Reason × Bool)

-- the first that applies
abbrev pub first_reason : Reasons → Option Reason
first_reason [] = None
first_reason (r ∷ rs) = if r.1 then Some r.0 else first_reason rs

-- no timestamp is left
abbrev pub is_out : StateOf → Bool
is_out s = s.clock == last_timestamp

-- the table has no seat of this number
abbrev pub no_seat : StateOf → ℕ → Bool
no_seat s seat = not (nat_lt seat s.seats)

-- what names no transaction asks for a seat of the table alone
abbrev pub seat_reasons : StateOf → ℕ → Reasons
seat_reasons s seat = (Reason.NotOfSeat, no_seat s seat) ∷ []

-- the transaction of this start is there, and is one of this seat
pub record IsOwn (s : StateOf) (seat start : ℕ) (t : TransactionOf) : Type 0 where
  pub there : map.get s.transactions start ≡ Some t
  pub mine : t.seat ≡ seat

-- the transaction, if it is one of this seat
abbrev pub if_of_seat : ℕ → Option TransactionOf → Option TransactionOf
if_of_seat seat None = None
if_of_seat seat (Some t) = if t.seat == seat then Some t else None

-- the transaction of this start, if the table has this seat and it is one of it
abbrev pub own_transaction : StateOf → ℕ → ℕ → Option TransactionOf
own_transaction s seat start = if no_seat s seat then None else if_of_seat seat (map.get s.transactions start)

-- without a transaction the one reason, and else what is asked of it
abbrev pub reasons_of : Option TransactionOf → (TransactionOf → Reasons) → Reasons
reasons_of None why = (Reason.NotOfSeat, true) ∷ []
reasons_of (Some t) why = why t

-- a step that names a start is refused where that isn't one of the seat's transactions, and else for that one's reasons
abbrev pub own_reasons : StateOf → ℕ → ℕ → (TransactionOf → Reasons) → Reasons
own_reasons s seat start why = reasons_of (own_transaction s seat start) why
