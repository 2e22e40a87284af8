-- Why a change is left: a table that is kept over generations refuses its only seat a timestamp, where none is left, and nothing
-- else.
use Rattle.std.specs.Prelude.{◌≡◌, ℕ, ◌<◌, ◌^◌, List, Some, slice_get}
use Rattle.pb_keeper.specs.Words.{Row, Reason, ObserverOf, last_timestamp, StateOf, step_reason, Step, Received, entries_by, RunOf, watch_of, fresh, IsKeptTable}
use Rattle.pb_keeper.specs.declared.change.Stopped.{Stopped}

-- the table is kept over generations, of which the last began at c, by what its only seat said since it was opened, with the numbers that
-- observers have by now
pub record WasKept (state : StateOf) : Type 0 where
  pub observers : List ObserverOf
  pub gone : List ObserverOf
  pub c : ℕ
  pub said : List Received
  pub kept : IsKeptTable observers gone 1 0 c (entries_by 0 said) state

-- a step was left for want of memory, or for the reason that the table has to refuse it
abbrev pub IsLeftFor : StateOf → Step → Stopped → Type 0
IsLeftFor state step (Stopped.NoMemory e) = Unit {0}
IsLeftFor state step (Stopped.Refused why) = step_reason state 0 step ≡ Some why
IsLeftFor state step Stopped.Conflict = ⊥

-- memory was refused
abbrev pub WantsMemory : Stopped → Type 0
WantsMemory (Stopped.NoMemory e) = Unit {0}
WantsMemory _ = ⊥

-- want of memory, or of a timestamp after the last was given out
abbrev pub IsStop : Stopped → StateOf → Type 0
IsStop (Stopped.NoMemory e) state = Unit {0}
IsStop (Stopped.Refused why) state = (why ≡ Reason.OutOfTimestamps) × (state.clock ≡ last_timestamp)
IsStop Stopped.Conflict state = ⊥

-- a run of one of these observers before its first step, on a row and a column that a record has room for
pub record IsKnownJob (observers : List ObserverOf) (first : RunOf) : Type 0 where
  pub n : ℕ
  pub o : ObserverOf
  pub row : Row
  pub there : slice_get observers n ≡ Some o
  pub row_fits : row.0 < 2 ^ 64
  pub column_fits : o.column < 2 ^ 64
  pub is : first ≡ fresh (watch_of n o row)
