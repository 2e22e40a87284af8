-- A table that is kept over generations: it is opened with nothing in it, or begins anew from another one, also with other observers,
-- and then these changes led to it, and nothing else.
use Rattle.std.specs.Prelude.{◌≡◌, ℕ, ◌<◌, ◌≤◌, List, [], ◌∷◌, ◌++◌, length, slice_get}
use Rattle.std.specs.FinMap as map
use Rattle.pb_keeper.specs.Words.{Writes, Ts, ObserverOf, last_timestamp, StateOf, opening, IsCommittedAt, view_of, Received, entries_by, HasMoreObservers, IsMarkedBehind, AreChosen, IsChosenSnapshot, chosen_state, new_number, renumbered_said, IsKeptTable, IsUnlocked, carried, unmarked, AreLeft, IsSnapshotOf}
use Rattle.pb_keeper.specs.Drains.{IsDrainWithin}
use Rattle.pb_keeper.specs.Leads.{SaidLeads}
use Rattle.pb_keeper.specs.Made.{IsMade, runs_within}
use Rattle.pb_keeper.specs.declared.passes.TheConstants.{MAX_RUNS}
use Rattle.pb_keeper.specs.Stats.{AreKeptStats, AreStatsOf, Counted, KeptTable, chosen_stats, first_stats, kept_table, no_runs, total_at, sum_of}
use Rattle.pb_keeper.specs.declared.stats.ObserverStats.{ObserverStats}

-- ---- a generation

-- steps of its only seat led from this table to that one, which made this change, with the drain that follows it, of as many runs at most
-- as the limit of entries has room for, and what its runs did is counted
pub record IsKeptAfter (limit : ℕ) (batch : Writes) (old new : KeptTable) : Type 0 where
  pub commit : Ts
  pub leads : SaidLeads (Counted old.state.observers old.stats new.stats (IsMade old.state.observers (runs_within limit (map.len old.state.entries)) batch commit)) old.state new.state

-- these changes led from this table to that one, one after the other, where it has this limit of entries
pub data KeepsFrom (limit : ℕ) (first : KeptTable) : List Writes → KeptTable → Type 0 where
  none_made : KeepsFrom limit first [] first
  one_made : (changes : List Writes) (batch : Writes) (between new : KeptTable) → KeepsFrom limit first changes between → IsKeptAfter limit batch between new → KeepsFrom limit first (changes ++ batch ∷ []) new

-- a table as opened, of one seat
abbrev pub opened_table : List ObserverOf → KeptTable
opened_table observers = kept_table (opening observers 1 0) (first_stats observers)

-- carried over from a table: what stands is a snapshot of it, with what is left of its transactions, and a mark on each cell that an
-- observer isn't up to date on
pub record IsAnew (old new : StateOf) : Type 0 where
  pub marked : IsMarkedBehind (unmarked (carried old new.entries new.transactions)) new
  pub snapshot : IsSnapshotOf old new.entries
  pub left : AreLeft old new.entries new.transactions

-- a table goes on with the observers at these places: what stands is a snapshot of their cells, with what is left of its transactions,
-- and a mark on each cell that one of them isn't up to date on; and the stats are theirs
pub record IsChosenOf (places : List ℕ) (front : List ObserverOf) (old new : KeptTable) : Type 0 where
  pub are : AreChosen places old.state.observers front
  pub marked : IsMarkedBehind (unmarked (chosen_state old.state front new.state.entries new.state.transactions)) new.state
  pub snapshot : IsChosenSnapshot places old.state new.state.entries
  pub left : AreLeft old.state new.state.entries new.state.transactions
  pub stats_are : new.stats ≡ chosen_stats places old.stats

-- it got these observers after those that it had, with a mark on each cell of theirs that has a write record, and then a drain led on, by
-- which they catch up, as far as so many runs go; what its runs did is counted, of the new ones from nothing on
pub record CatchesUp (more : List ObserverOf) (old new : KeptTable) : Type 0 where
  pub marked : KeptTable
  pub observed : HasMoreObservers more old.state marked.state
  pub stats_are : marked.stats ≡ old.stats ++ first_stats more
  pub bound : ℕ
  pub drained : SaidLeads (Counted marked.state.observers marked.stats new.stats (IsDrainWithin marked.state.observers bound)) marked.state new.state

-- a table as a generation begins with it, and the changes of all generations before, each of which had a limit of entries of its own
pub data IsFirstTable : List Writes → KeptTable → Type 0 where
  opened : (observers : List ObserverOf) → IsFirstTable [] (opened_table observers)
  anew : (limit : ℕ) (past changes : List Writes) (first old new : KeptTable) → IsFirstTable past first → KeepsFrom limit first changes old → old.state.clock < last_timestamp
      → IsAnew old.state new.state → new.stats ≡ old.stats → IsFirstTable (past ++ changes) new
  -- with the observers at these places, and then others, which caught up
  changed : (limit : ℕ) (past changes : List Writes) (first old between new : KeptTable) (places : List ℕ) (front more : List ObserverOf) → IsFirstTable past first → KeepsFrom limit first changes old
      → old.state.clock < last_timestamp → IsChosenOf places front old between → CatchesUp more between new → IsFirstTable (past ++ changes) new

-- a table of the generation that begins with the first, which has this limit of entries: these changes were made since
pub record Keeps (limit : ℕ) (first : KeptTable) (changes : List Writes) (table : KeptTable) : Type 0 where
  pub past : List Writes
  pub began : IsFirstTable past first
  pub leads : KeepsFrom limit first changes table

-- ---- what holds of it

-- as a generation begins, it keeps no change of its own
abbrev pub BeginningKeepsNone : Type 0
BeginningKeepsNone = (limit : ℕ) (past : List Writes) (first : KeptTable) → IsFirstTable past first → Keeps limit first [] first

-- no lock stands in a table that keeps changes
abbrev pub KeptIsUnlocked : Type 0
KeptIsUnlocked = (limit : ℕ) (first : KeptTable) (changes : List Writes) (table : KeptTable) → Keeps limit first changes table → IsUnlocked table.state

-- committed transactions of a table that keeps changes follow one another, since one seat makes one after another: what began after
-- another began after that was committed
abbrev pub KeptFollowOneAnother : Type 0
KeptFollowOneAnother =
    (limit : ℕ) (first : KeptTable) (changes : List Writes) (table : KeptTable) → Keeps limit first changes table → (s c u d : ℕ) → IsCommittedAt (view_of table.state) s c → IsCommittedAt (view_of table.state) u d → s < u → c < u

-- what the runs of the observers did, by their new numbers: of those that stay, and nothing of new ones and of those that are gone
abbrev pub total_in : List ℕ → (ℕ → ObserverStats) → ℕ → ObserverStats
total_in places total n = total_at total (slice_get places n)

-- These changes of all generations were made, each once and in order, each with the drain that follows it, by the observers of its time;
-- and where the observers changed, the drain by which new ones caught up. The conversation has the numbers that they have by now; those that
-- are gone stand after the others. This is what the runs of each did that isn't gone, counted as they were made.
pub data AreMadeInAll : List ObserverOf → List ObserverOf → List Writes → List Received → (ℕ → ObserverStats) → Type 0 where
  nothing_made : (observers : List ObserverOf) → AreMadeInAll observers [] [] [] (λ o. no_runs)
  change_made : (observers gone : List ObserverOf) (changes : List Writes) (said more : List Received) (total did : ℕ → ObserverStats) (bound : ℕ) (batch : Writes) (commit : Ts) → AreMadeInAll observers gone changes said total
      → bound ≤ MAX_RUNS → IsMade observers bound batch commit more → AreStatsOf observers more did → AreMadeInAll observers gone (changes ++ batch ∷ []) (said ++ more) (λ o. sum_of (total o) (did o))
  observers_changed : (observers gone front added : List ObserverOf) (places : List ℕ) (bound : ℕ) (changes : List Writes) (said more : List Received) (total did : ℕ → ObserverStats) → AreMadeInAll observers gone changes said total
      → AreChosen places observers front → IsDrainWithin (front ++ added) bound more → AreStatsOf (front ++ added) more did
      → AreMadeInAll (front ++ added) (observers ++ gone) changes (renumbered_said (new_number places (length (front ++ added))) said ++ more) (λ o. sum_of (total_in places total o) (did o))

-- One conversation, of all generations, makes these changes and leads to the table; what is kept of an observer is what its runs did
-- in it. No run of theirs met a conflict, since the table has one seat, which makes one thing after another.
pub record IsWholeTable (observers : List ObserverOf) (changes : List Writes) (table : KeptTable) : Type 0 where
  pub gone : List ObserverOf
  pub said : List Received
  pub total : ℕ → ObserverStats
  pub made : AreMadeInAll observers gone changes said total
  pub c : ℕ
  pub kept : IsKeptTable observers gone 1 0 c (entries_by 0 said) table.state
  pub clean : (o : ℕ) → (total o).conflicts ≡ 0
  pub as_many : length table.stats ≡ length observers
  pub are : AreKeptStats total table.stats

-- so each change of all generations was made once and in order, and all promises over generations hold of what is kept
abbrev pub KeptIsWhole : Type 0
KeptIsWhole = (limit : ℕ) (first : KeptTable) (changes : List Writes) (table : KeptTable) → (k : Keeps limit first changes table) → IsWholeTable first.state.observers (k.past ++ changes) table
