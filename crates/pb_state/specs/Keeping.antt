-- What a state's fields are as one, and what they keep: model and invariant of `Parts`.
use Rattle.std.specs.Prelude.{ℕ, ◌≤◌, List, length}
use Rattle.pb_state.specs.Words.{MAX_SEATS, MAX_OBSERVERS, TableOf, ObserverOf, StateOf, Transactions}

-- the table's first rows are left out, since no step depends on where tablets begin
abbrev pub parts_as_state : TableOf → List ObserverOf → ℕ → ℕ → Transactions → StateOf
parts_as_state table observers clock seats transactions =
    record { entries = table.contents.entries; marks = table.contents.marks; observers = observers; clock = clock; seats = seats; transactions = transactions }

-- 1 to 64 seats, and at most 32 observers
pub record IsOfSize (observers : List ObserverOf) (seats : ℕ) : Type 0 where
  pub some : 1 ≤ seats
  pub few : seats ≤ MAX_SEATS
  pub numbered : length observers ≤ MAX_OBSERVERS
