-- What the marks of a legal journal's table show (OSDI 2010, section 2.4).
use Rattle.std.specs.Prelude.{◌≡◌, true}
use Rattle.pb_history.specs.Words.{Cell, StateOf, is_marked, SomeBehind}

-- a cell on which an observer isn't up to date is marked
abbrev pub TellsMarks : StateOf → Type 0
TellsMarks state = (x : Cell) → SomeBehind state.observers state.entries x → is_marked state.marks x ≡ true
