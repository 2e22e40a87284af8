-- The first marked cell after a given one, where an observer may have work (OSDI 2010, section 2.4).
use Rattle.std.specs.Prelude.{◌≡◌, Option, Some, None}
use Rattle.pb_steps.specs.Words.{Cell, IsNextMark}
use Rattle.pb_steps.specs.State.{StateOf}

-- x is marked, and no cell between is; nothing changes, so that many may find it at once
pub record FindsMark (old : StateOf) (after : Option Cell) (x : Cell) (new : StateOf) : Type 0 where
  pub first : IsNextMark old.marks after (Some x)
  pub new_is : new ≡ old

-- a pass is at its end
pub record FindsNone (old : StateOf) (after : Option Cell) (new : StateOf) : Type 0 where
  pub none : IsNextMark old.marks after None
  pub new_is : new ≡ old
