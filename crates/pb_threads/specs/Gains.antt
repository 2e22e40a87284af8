-- What a seat gained, and why its worker stopped. No more is stated of a call under a lock, since what the table has
-- come to depends on all seats.
use Rattle.std.specs.Prelude.{◌≡◌, ℕ, ◌⊎◌, List, [], ◌∷◌, ◌++◌, Option, Some, None}
use Rattle.pb_threads.specs.Words.{Reason, Refusal, refusal_by, memory_refusal, Step, Answer, ObserverOf, Received, SharedOf, SeatOf, call_reason, IsLegalTable, told}

-- a seat received one more answer
pub record Told (old : SeatOf) (step : Step) (answer : Answer) (new : SeatOf) : Type 0 where
  pub number : new.number ≡ old.number
  pub received : new.received ≡ old.received ++ told step answer ∷ []

-- the seat's list went on by such a part
pub record Gains (AreSuch : List Received → Type 0) (old new : SeatOf) : Type 0 where
  pub said : List Received
  pub number : new.number ≡ old.number
  pub received : new.received ≡ old.received ++ said
  pub are_such : AreSuch said

-- how a table was opened: its observers, how many seats, the clock, room for so many entries, and how many tablets
pub record OpeningOf : Type 0 where
  pub observers : List ObserverOf
  pub seats : ℕ
  pub opened : ℕ
  pub limit : ℕ
  pub places : ℕ

-- no step and no swap changes it
abbrev pub opening_of : SharedOf → OpeningOf
opening_of s = record { observers = s.state.observers; seats = s.state.seats; opened = s.opened; limit = s.limit; places = s.places }

-- the table was opened so, where it is known how
abbrev pub IsOpenedAs : Option OpeningOf → SharedOf → Type 0
IsOpenedAs None s = Unit {0}
IsOpenedAs (Some o) s = opening_of s ≡ o

-- some table that was opened so, with a legal journal, refuses this seat the step with this number
pub record IsSeatRefused (opens : Option OpeningOf) (seat : ℕ) (step : Step) (r : Refusal) : Type 0 where
  pub shared : SharedOf
  pub opened : IsOpenedAs opens shared
  pub legal : IsLegalTable shared
  pub why : Reason
  pub refused : call_reason shared seat step ≡ Some why
  pub told : r ≡ refusal_by why

-- memory was refused
abbrev pub IsWant : Refusal → Type 0
IsWant r = r ≡ memory_refusal

-- a call was refused: for want of memory, or by the table
abbrev pub MayRefuse : Option OpeningOf → ℕ → Step → Refusal → Type 0
MayRefuse opens seat step r = IsWant r ⊎ IsSeatRefused opens seat step r

-- it stopped for want of memory, or at the step that it asked next, which was refused
abbrev pub IsSeatStop : Option OpeningOf → ℕ → Option Step → Refusal → Type 0
IsSeatStop opens seat next r = IsWant r ⊎ ((step : Step) × (next ≡ Some step) × IsSeatRefused opens seat step r)
