-- When the seats agree with the journal. The contract of `finish` cites it, which accepts exactly then.
use Rattle.std.specs.Prelude.{◌≡◌, ℕ, ◌<◌, Bool, true, not, ◌&&◌, ◌==◌, IsTrue, List, [], ◌∷◌, length, slice_index_or, refl}
use Rattle.std.specs.List.{list_any}
use Rattle.std.specs.Coded.{Coded, code_by, coded×, coded_list}
use Rattle.pb_history.specs.Places.{entries_of}
use Rattle.pb_history.specs.declared.entry.Entry.{Entry}
use Rattle.pb_core.specs.Calls.{SharedOf, SeatOf}
use Rattle.pb_core.specs.Codes.{shared_code}
use Rattle.pb_core.specs.contracts.seat.Seat as seat

-- the seat is one of the table, and its list is its entries in the journal
pub record IsSeatTold (count : ℕ) (journal : List Entry) (seat : SeatOf) : Type 0 where
  pub seated : seat.number < count
  pub same : entries_of seat.number journal ≡ seat.received

-- each list is the journal's entries of its seat
abbrev pub EachTold : ℕ → List Entry → List SeatOf → Type 0
EachTold count journal seats = (k : ℕ) (d : SeatOf) → k < length seats → IsSeatTold count journal (slice_index_or seats k d)

-- no two seats have one number
abbrev pub no_twice : List SeatOf → Bool
no_twice [] = true
no_twice (s ∷ ss) = not (list_any (λ t. t.number == s.number) ss) && no_twice ss

-- each seat of the table once, and each list is the journal's entries of that seat
pub record Agree (table : SharedOf) (seats : List SeatOf) : Type 0 where
  pub counted : length seats ≡ table.state.seats
  pub told : EachTold table.state.seats table.journal seats
  pub distinct : IsTrue (no_twice seats)

-- what has ended: a table with its seats
pub record EndedOf : Type 0 where
  pub shared : SharedOf
  pub seats : List SeatOf

-- what has ended by its two parts, as a pair
abbrev pub ended_code : Coded EndedOf
ended_code = code_by (SharedOf × List SeatOf) (coded× shared_code (coded_list seat.the_row.coded)) (λ e. (e.shared, e.seats)) (λ p. record { shared = p.0; seats = p.1 }) (λ _. refl)
