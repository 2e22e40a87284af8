-- A table gets more observers after those that it has (OSDI 2010, section 2.4): every cell of their columns that was ever written
-- is marked for them, so that they come to it as to one that has just changed.
use Rattle.std.specs.Prelude.{◌≡◌, ℕ, ◌⊎◌, true, List, ◌++◌, Some}
use Rattle.pb_state.specs.Words.{Cell, ObserverOf, StateOf, is_marked, is_observed, write_at}
use Rattle.pb_state.specs.MoreMarks.{WasWritten}

-- the same table with these observers after those that it has, and with a mark on each cell of their columns that has a write record
pub record HasMoreObservers (more : List ObserverOf) (old new : StateOf) : Type 0 where
  -- nothing else has changed
  pub is : new ≡ record old { observers = old.observers ++ more; marks = new.marks }
  -- a marked cell stays marked
  pub kept : (x : Cell) → is_marked old.marks x ≡ true → is_marked new.marks x ≡ true
  -- a cell that one of them observes is marked where it has a write record, whatever that wrote
  pub marked : (x : Cell) (c s : ℕ) → is_observed more x ≡ true → write_at old.entries x c ≡ Some s → is_marked new.marks x ≡ true
  -- and no other cell is
  pub only : (x : Cell) → is_marked new.marks x ≡ true → (is_marked old.marks x ≡ true) ⊎ ((is_observed more x ≡ true) × WasWritten old.entries x)

-- where memory was refused: the same table with some of those marks, and without these observers
pub record HasMoreMarks (more : List ObserverOf) (old new : StateOf) : Type 0 where
  pub is : new ≡ record old { marks = new.marks }
  pub kept : (x : Cell) → is_marked old.marks x ≡ true → is_marked new.marks x ≡ true
  pub only : (x : Cell) → is_marked new.marks x ≡ true → (is_marked old.marks x ≡ true) ⊎ ((is_observed more x ≡ true) × WasWritten old.entries x)
