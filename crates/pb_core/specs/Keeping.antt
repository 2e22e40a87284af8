-- What the shared table keeps between calls: the invariant of `Shared`. By its limit, entries and marks can be counted.
use Rattle.std.specs.Prelude.{◌≡◌, ℕ, ◌<◌, ◌≤◌, List, [], length, slice_index_or}
use Rattle.pb_core.specs.Words.{MAX_ENTRIES, StateOf, Entry, places_from, IsLegal}

-- the journal is legal and leads to the state, and each book has the places of its seat
pub record SharedKeeps (journal : List Entry) (books : List (List ℕ)) (state : StateOf) (clock limit : ℕ) : Type 0 where
  pub legal : IsLegal state.observers state.seats clock journal state
  pub placed : (seat : ℕ) → seat < length books → slice_index_or books seat [] ≡ places_from 0 seat journal
  pub counted : state.seats ≡ length books
  pub room : length journal ≤ limit
  pub bounded : limit ≤ MAX_ENTRIES
