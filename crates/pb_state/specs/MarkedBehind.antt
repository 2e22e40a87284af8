-- A table that begins without the marks that it had gets one on each cell that an observer isn't up to date on (OSDI 2010, section 2.4).
use Rattle.std.specs.Prelude.{◌≡◌, ◌⊎◌, true}
use Rattle.pb_state.specs.Words.{Cell, SomeBehind, StateOf, is_marked}

-- the same table with a mark on each such cell
pub record IsMarkedBehind (old new : StateOf) : Type 0 where
  -- nothing else has changed
  pub is : new ≡ record old { marks = new.marks }
  -- a marked cell stays marked
  pub kept : (x : Cell) → is_marked old.marks x ≡ true → is_marked new.marks x ≡ true
  -- a cell that one isn't up to date on is marked
  pub marked : (x : Cell) → SomeBehind old.observers old.entries x → is_marked new.marks x ≡ true
  -- and no other cell is
  pub only : (x : Cell) → is_marked new.marks x ≡ true → (is_marked old.marks x ≡ true) ⊎ SomeBehind old.observers old.entries x

-- where memory was refused: the same table with some of those marks
pub record HasSomeMarked (old new : StateOf) : Type 0 where
  pub is : new ≡ record old { marks = new.marks }
  pub kept : (x : Cell) → is_marked old.marks x ≡ true → is_marked new.marks x ≡ true
  pub only : (x : Cell) → is_marked new.marks x ≡ true → (is_marked old.marks x ≡ true) ⊎ SomeBehind old.observers old.entries x
