-- A seat's places in a journal, and its entries: what its book has, and what the seat itself received.
use Rattle.std.specs.Prelude.{ℕ, ◌+◌, ◌==◌, if◌then◌else◌, List, [], ◌∷◌}
use Rattle.pb_history.specs.declared.entry.Entry.{Entry}
use Rattle.pb_history.specs.declared.entry.Received.{Received}

-- the places of a seat's entries, where the journal's first is at `at`
abbrev pub places_from : ℕ → ℕ → List Entry → List ℕ
places_from at seat [] = []
places_from at seat (e ∷ es) = if e.seat == seat then at ∷ places_from (at + 1) seat es else places_from (at + 1) seat es

-- the steps and answers of a seat, in order
abbrev pub entries_of : ℕ → List Entry → List Received
entries_of seat [] = []
entries_of seat (e ∷ es) = if e.seat == seat then record { step = e.step; answer = e.answer } ∷ entries_of seat es else entries_of seat es
