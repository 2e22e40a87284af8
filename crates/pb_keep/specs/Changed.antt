-- A table that goes on with other observers.
use Rattle.std.specs.Prelude.{◌≡◌, ◌≢◌, ℕ, ◌<◌, List, [], ◌++◌, length}
use Rattle.std.specs.FinMap as map
use Rattle.pb_state.specs.declared.carry_fault.CarryFault.{CarryFault}
use Rattle.pb_keeper.specs.Keeps.{CatchesUp, IsChosenOf}
use Rattle.pb_keeper.specs.Made.{catching_up_bound}
use Rattle.pb_keep.specs.Words.{KeptTable, ObserverOf, StateOf, Stopped, commit_count, last_timestamp}
use Rattle.pb_keep.specs.declared.compact.SnapshotFault.{SnapshotFault}
use Rattle.pb_keep.specs.declared.waiting.Waits.{Waits}

-- A table with a timestamp left went on with the observers at these places, and then with others, which caught up by so many runs, as far
-- as their bound goes.
pub record HasOtherObservers (places : List ℕ) (front more : List ObserverOf) (old new : KeptTable) (runs : ℕ) : Type 0 where
  pub room : old.state.clock < last_timestamp
  pub between : KeptTable
  pub chosen : IsChosenOf places front old between
  pub caught_up : CatchesUp more between new
  pub bound : caught_up.bound ≡ catching_up_bound (map.len between.state.entries) (length (front ++ more))
  pub count : runs ≡ commit_count caught_up.drained.said

-- ---- faults

-- that of a run that was stopped
abbrev pub why_stopped : Stopped → SnapshotFault
why_stopped (Stopped.NoMemory refused) = SnapshotFault.NoMemory refused
why_stopped (Stopped.Refused why) = SnapshotFault.NoTimestamp
why_stopped Stopped.Conflict = SnapshotFault.NoTimestamp

-- that of a version that was refused
abbrev pub why_refused : CarryFault → SnapshotFault
why_refused (CarryFault.NoMemory refused) = SnapshotFault.NoMemory refused
why_refused _ = SnapshotFault.Unwritable

-- a line waits
abbrev pub SomeLineWaits : SnapshotFault → Type 0
SomeLineWaits SnapshotFault.LinesWait = Unit {0}
SomeLineWaits _ = ⊥

-- why a table gets no other observers, where these lines wait: memory was refused, some do, or the last timestamp is given out
abbrev pub WhyNotChanged : List Waits → StateOf → StateOf → SnapshotFault → Type 0
WhyNotChanged waiting old new (SnapshotFault.NoMemory e) = Unit {0}
WhyNotChanged waiting old new SnapshotFault.LinesWait = waiting ≢ []
WhyNotChanged waiting old new SnapshotFault.NoTimestamp = new.clock ≡ last_timestamp
WhyNotChanged waiting old new _ = ⊥
