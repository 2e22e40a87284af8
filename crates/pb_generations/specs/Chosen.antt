-- A table gets another list of observers where no lock stands on it: some of those that it has, in any order, and then others. Those that stay keep
-- what they have acknowledged, under their new numbers. The acknowledgments of those that go aren't kept, so that one which
-- comes back later is a new one.
use Rattle.std.specs.Prelude.{◌≡◌, ℕ, ◌+◌, ◌==◌, cond, suc, zero, List, [], ◌∷◌, length, map as map_list, Option, Some, None, option_map, slice_get}
use Rattle.pb_generations.specs.Words.{Cell, Content, ObserverOf, Entries, data_at, lock_at, write_at, StateOf, Transactions, IsSoundTable, Received}
use Rattle.pb_generations.specs.Mirrored.{SameVersionOn, carried}
use Rattle.pb_generations.specs.Renumbered.{renumbered_answer, renumbered_step}
use Rattle.pb_generations.specs.Snapshots.{AreEnded, AreLeft, IsViewedAt}

-- ---- which observers

-- at which place the list has a number, the first if it has it at several; none if it lacks it
unfoldable pub place_among : List ℕ → ℕ → Option ℕ
place_among [] o = None
place_among (p ∷ places) o = cond (p == o) (Some zero) (option_map (λ n. suc n) (place_among places o))

-- the new list has the observers that stand at these places of the old one, in the order of the places, and each once
pub record AreChosen (places : List ℕ) (old new : List ObserverOf) : Type 0 where
  pub as_many : length new ≡ length places
  pub each : (n p : ℕ) → slice_get places n ≡ Some p → (observer : ObserverOf) × (slice_get old p ≡ Some observer) × (slice_get new n ≡ Some observer)
  pub apart : (m n p : ℕ) → slice_get places m ≡ Some p → slice_get places n ≡ Some p → m ≡ n

-- ---- their cells

-- a cell as the table will have it: an acknowledgment of one that stays has its new number, and one of another is left out
abbrev pub chosen_cell : List ℕ → Cell → Option Cell
chosen_cell places (Cell.Data row column) = Some (Cell.Data row column)
chosen_cell places (Cell.Ack o row column) = option_map (λ n. Cell.Ack n row column) (place_among places o)

-- of each data cell, and of each acknowledgment of one that stays, the versions that may still be viewed; nothing else that the table
-- doesn't have; and no lock
pub record IsChosenSnapshot (places : List ℕ) (old : StateOf) (e : Entries) : Type 0 where
  pub viewed : (x y : Cell) → chosen_cell places x ≡ Some y → (t : ℕ) → IsViewedAt old x t → SameVersionOn t old.entries x e y
  pub only : (y : Cell) (d s : ℕ) → write_at e y d ≡ Some s → (x : Cell) × (chosen_cell places x ≡ Some y) × (write_at old.entries x d ≡ Some s)
  pub no_more : (y : Cell) (s : ℕ) (k : Content) → data_at e y s ≡ Some k → (x : Cell) × (chosen_cell places x ≡ Some y) × (data_at old.entries x s ≡ Some k)
  pub stored : (y : Cell) (d s : ℕ) → write_at e y d ≡ Some s → (k : Content) × (data_at e y s ≡ Some k)
  pub unlocked : (y : Cell) (s : ℕ) → lock_at e y s ≡ None

-- the table with what was chosen in the place of what it has, and with these observers alone
abbrev pub chosen_state : StateOf → List ObserverOf → Entries → Transactions → StateOf
chosen_state old front e ts = record (carried old e ts) { observers = front }

-- with what is left of its transactions it is a sound table, and none of these is of a seat
abbrev pub ChosenAreSound : Type 0
ChosenAreSound =
    (places : List ℕ) (front : List ObserverOf) (old : StateOf) (e : Entries) (ts : Transactions) → IsSoundTable old → AreChosen places old.observers front → IsChosenSnapshot places old e → AreLeft old e ts
    → IsSoundTable (chosen_state old front e ts) × AreEnded old ts

-- ---- their numbers

-- the new number of one that stays is its place in the new list; each other one, also one that was gone already, comes after that list,
-- which has so many
abbrev pub placed_after : ℕ → ℕ → Option ℕ → ℕ
placed_after size o (Some n) = n
placed_after size o None = size + o

abbrev pub new_number : List ℕ → ℕ → ℕ → ℕ
new_number places size o = placed_after size o (place_among places o)

-- what names observers, by their new numbers
abbrev pub renumbered_received : (ℕ → ℕ) → Received → Received
renumbered_received number r = record r { step = renumbered_step number r.step; answer = renumbered_answer number r.answer }

abbrev pub renumbered_said : (ℕ → ℕ) → List Received → List Received
renumbered_said number said = map_list (renumbered_received number) said
