-- Anyone takes a mark off a cell, once all observers of its column are up to date on it (OSDI 2010, section 2.4).
use Rattle.std.specs.Prelude.{◌≡◌, true, false}
use Rattle.std.specs.FinMap as map
use Rattle.pb_steps.specs.Words.{Cell}
use Rattle.pb_steps.specs.State.{StateOf}
use Rattle.pb_steps.specs.Marks.{is_marked, SomeBehind, AllUpToDate}

-- there is no mark to take off
pub record SweepsNothing (old : StateOf) (x : Cell) (new : StateOf) : Type 0 where
  pub unmarked : is_marked old.marks x ≡ false
  pub new_is : new ≡ old

-- an observer still has a change to handle here
pub record StaysMarked (old : StateOf) (x : Cell) (new : StateOf) : Type 0 where
  pub marked : is_marked old.marks x ≡ true
  pub behind : SomeBehind old.observers old.entries x
  pub new_is : new ≡ old

-- every observer of the column has acknowledged each commit, so that no run is lost with the mark
pub record Sweeps (old : StateOf) (x : Cell) (new : StateOf) : Type 0 where
  pub marked : is_marked old.marks x ≡ true
  pub up_to_date : AllUpToDate old.observers old.entries x
  pub new_is : new ≡ record old { marks = map.remove old.marks x }
