-- How many entries tables have that are kept within a limit. The laws of this crate cite it.
use Rattle.std.specs.Prelude.{ℕ, ◌+◌, ◌*◌, ◌≤◌, max, List}
use Rattle.std.specs.FinMap as map
use Rattle.pb_keeper.specs.Keeps.{CatchesUp, IsKeptAfter}
use Rattle.pb_keeper.specs.Stats.{KeptTable}
use Rattle.pb_keeper.specs.declared.passes.TheConstants.{MAX_RUN_ENTRIES}
use Rattle.pb_keep.specs.Conversations.{AreAnswered}
use Rattle.pb_keep.specs.Waits.{Group}
use Rattle.law_limits.specs.Words.{MAX_CELLS, MAX_CHANGES, Writes, ObserverOf}

abbrev pub entry_count : KeptTable → ℕ
entry_count table = map.len table.state.entries

-- how many entries the own writes of a change leave at most: of each cell the data and the write record
abbrev pub own_entries : ℕ
own_entries = 2 * MAX_CELLS

-- A change, with the drain after it, leaves no more entries than the limit, or than there were, but for those of its own writes.
abbrev pub ChangesStayWithin : Type 0
ChangesStayWithin = (limit : ℕ) (batch : Writes) (old new : KeptTable) → IsKeptAfter limit batch old new → entry_count new ≤ max limit (entry_count old) + own_entries

-- Observers that catch up leave so many entries for each run that they may make.
abbrev pub CatchingUpStaysWithin : Type 0
CatchingUpStaysWithin = (more : List ObserverOf) (old new : KeptTable) → (c : CatchesUp more old new) → entry_count new ≤ entry_count old + MAX_RUN_ENTRIES * c.bound

-- Whatever lines are answered, the table has no more entries than the limit, or than it began with, but for those of the own writes of one
-- record's changes.
abbrev pub ServedTablesStayWithin : Type 0
ServedTablesStayWithin =
    (since limit : ℕ) (start : KeptTable) (lines : List (List ℕ)) (made : List Writes) (group : Group) (n : ℕ) (table : KeptTable) (text : List ℕ) → AreAnswered since limit start lines made group n table text
    → entry_count table ≤ max limit (entry_count start) + own_entries * MAX_CHANGES
