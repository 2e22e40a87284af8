-- Which changes a run handles, and that each change is handled once (OSDI 2010, section 2.4).
use Rattle.std.specs.Prelude.{◌≡◌, ℕ, ◌<◌, ◌≤◌, false, List, Some, slice_get}
use Rattle.std.specs.FinMap as map
use Rattle.pb_history.specs.Words.{Cell, Row, Content, Work, StateOf, ObserverOf, observed_cell, acknowledgment, is_marked, NoLock, lock_count}
use Rattle.pb_history.specs.declared.entry.Entry.{Entry}
use Rattle.pb_history.specs.History.{Member, InHistory, WritesTo}
use Rattle.pb_history.specs.RunsTold.{IsAcknowledgedAt}

-- a run of an observer handles the changes of its cell that it saw, from after what was acknowledged up to its start
pub record Handles (observers : List ObserverOf) (journal : List Entry) (m : Member) (o : ℕ) (row : Row) (commit : ℕ) : Type 0 where
  pub run : m.work ≡ Work.Run o row
  pub acknowledged : ℕ
  pub acknowledges : IsAcknowledgedAt observers journal m.start (acknowledgment observers o row) acknowledged
  pub newer : acknowledged < commit
  pub seen : commit ≤ m.start

-- two committed runs of an observer that handle a change are one
abbrev pub TellsOneHandler : List Entry → StateOf → Type 0
TellsOneHandler journal state =
    (m n : Member) → InHistory state.observers journal m → InHistory state.observers journal n
    → (o : ℕ) (row : Row) (commit : ℕ) → Handles state.observers journal m o row commit → Handles state.observers journal n o row commit → m ≡ n

-- no mark and no lock
pub record IsQuiet (state : StateOf) : Type 0 where
  pub unmarked : (x : Cell) → is_marked state.marks x ≡ false
  pub unlocked : (x : Cell) → NoLock state.entries x

-- it is quiet exactly where no mark and no lock is counted
pub record TellsQuiet (state : StateOf) : Type 0 where
  pub quiet : map.len state.marks ≡ 0 → lock_count state.entries ≡ 0 → IsQuiet state
  pub unmarked : IsQuiet state → map.len state.marks ≡ 0
  pub unlocked : IsQuiet state → lock_count state.entries ≡ 0

-- where the table is quiet, each committed change of a cell, by a script or by a run, is handled by a committed run of each
-- of its observers
abbrev pub TellsHandlers : List Entry → StateOf → Type 0
TellsHandlers journal state =
    IsQuiet state → (u : Member) → InHistory state.observers journal u
    → (o : ℕ) (observer : ObserverOf) → slice_get state.observers o ≡ Some observer
    → (row : Row) (content : Content) → WritesTo u (observed_cell state.observers o row) content
    → (m : Member) × InHistory state.observers journal m × Handles state.observers journal m o row u.commit
